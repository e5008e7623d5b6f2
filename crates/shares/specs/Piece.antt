-- A piece of a cubic: its coefficients moved by the mask, and a box's share.
use Rattle.std.specs.Prelude.{ℕ, ◌+◌, ◌-◌, ◌*◌, ◌%◌, ◌^◌}
use Rattle.shares.specs.Words.{Quad, quad}

-- c0 + c1 v + c2 v² + c3 v³
abbrev pub curve : ℕ → ℕ → ℕ → ℕ → ℕ → ℕ
curve c0 c1 c2 c3 v = c0 + c1 * v + c2 * v * v + c3 * v * v * v

-- sum, difference and product modulo 2^64
abbrev pub added : ℕ → ℕ → ℕ
added a b = (a + b) % 2 ^ 64

abbrev pub less : ℕ → ℕ → ℕ
less a b = (a + (2 ^ 64 - b)) % 2 ^ 64

abbrev pub multiplied : ℕ → ℕ → ℕ
multiplied a b = a * b % 2 ^ 64

-- r² and r³
abbrev pub square : ℕ → ℕ
square r = multiplied r r

abbrev pub cube : ℕ → ℕ
cube r = multiplied (square r) r

-- the coefficients of f(m − r), lowest first: c0 − c1 r + c2 r² − c3 r³
abbrev pub moved0 : ℕ → ℕ → ℕ → ℕ → ℕ → ℕ
moved0 r c0 c1 c2 c3 = less (added (less c0 (multiplied c1 r)) (multiplied c2 (square r))) (multiplied c3 (cube r))

-- c1 − 2 c2 r + 3 c3 r²
abbrev pub moved1 : ℕ → ℕ → ℕ → ℕ → ℕ
moved1 r c1 c2 c3 = added (less c1 (multiplied (multiplied c2 2) r)) (multiplied (multiplied c3 3) (square r))

-- c2 − 3 c3 r
abbrev pub moved2 : ℕ → ℕ → ℕ → ℕ
moved2 r c2 c3 = less c2 (multiplied (multiplied c3 3) r)

-- the payload of a piece's key; the highest coefficient is c3 itself
abbrev pub piece_payload : ℕ → ℕ → ℕ → ℕ → ℕ → Quad
piece_payload r c0 c1 c2 c3 = quad (moved0 r c0 c1 c2 c3) (moved1 r c1 c2 c3) (moved2 r c2 c3) c3

-- a box's share: the cubic in m whose coefficients are the answer's words, and the box's part of the output mask
abbrev pub piece_share : ℕ → ℕ → ℕ → ℕ → ℕ → ℕ → ℕ → ℕ
piece_share N m w0 w1 w2 w3 out = (curve w0 w1 w2 w3 m + out) % N

-- the same from an answer as a quad
abbrev pub piece_share_of : ℕ → ℕ → Quad → ℕ → ℕ
piece_share_of N m w out = piece_share N m w.0.0.0 w.0.1.0 w.1.0.0 w.1.1.0 out
