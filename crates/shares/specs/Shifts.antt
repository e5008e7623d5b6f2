-- The shifts by s bits: two keys for words, a low one on s bits and a high one on all n. Here S = 2^s and N = 2^n.
use Rattle.std.specs.Prelude.{ℕ, ◌+◌, ◌-◌, ◌/◌, ◌%◌, ◌^◌, Bool, cond}

-- the low key's threshold, from the mask
abbrev pub low_threshold : ℕ → ℕ → ℕ
low_threshold S r = r % S

-- the low key's payload: −1
abbrev pub low_payload : ℕ
low_payload = 2 ^ 64 - 1

-- the high key's threshold, from the mask
abbrev pub high_threshold : ℕ → ℕ
high_threshold r = r

-- the high key's payload: 2^(n−s)
abbrev pub high_payload : ℕ → ℕ → ℕ
high_payload N S = N / S

-- where the low key is asked
abbrev pub low_point : ℕ → ℕ → ℕ
low_point S m = m % S

-- what is split beside the keys: the output mask less floor(r / S)
abbrev pub shift_rest : ℕ → ℕ → ℕ → ℕ → ℕ
shift_rest N S r out = out + (N - r / S)

-- a box's share, from its keys' answers at m mod S and at m and its part of the rest; box 1 adds floor(m / S)
abbrev pub shift_share : Bool → ℕ → ℕ → ℕ → ℕ → ℕ → ℕ → ℕ
shift_share one N S m low high rest = (low % N + high % N + rest + cond one (m / S) 0) % N

-- the held value that a signed shift's keys are asked about
abbrev pub signed_held : ℕ → ℕ → ℕ
signed_held N m = (m + N / 2) % N

-- a box's share of a signed shift: as a shift at m + N/2, and box 1 subtracts 2^(n−1−s)
abbrev pub signed_share : Bool → ℕ → ℕ → ℕ → ℕ → ℕ → ℕ → ℕ
signed_share one N S m low high rest = (low % N + high % N + rest + cond one (signed_held N m / S + (N - N / 2 / S)) 0) % N
