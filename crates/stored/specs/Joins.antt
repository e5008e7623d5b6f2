-- A list in two parts, and what two writes leave.
use Rattle.std.specs.Prelude.{◌≡◌, ℕ, ◌-◌, List, [], ◌++◌, length, take, drop}
use Rattle.std.proofs.Common.{sym, ap, ◌∙◌, append-nil, arith, length-append}
use Rattle.std.proofs.lemmas.List.{take_at, drop_at, drop_all}
use borrow.Rule.Slice.PartMut.{put_mid}

pub front : (a b s : List ℕ) (n : ℕ) → length a ≡ n → a ++ b ≡ s → a ≡ take n s
front a b s n h e = sym (take_at a b n h) ∙ ap (take n) e

pub back : (a b s : List ℕ) (n : ℕ) → length a ≡ n → a ++ b ≡ s → b ≡ drop n s
back a b s n h e = sym (drop_at a b n h) ∙ ap (drop n) e

-- what two writes leave, the first to the front and the second to all that follows
pub two_writes : (n k : ℕ) (a post b : List ℕ) → length a ≡ n → k ≡ length (a ++ post) - n → put_mid n k (a ++ post) b ≡ a ++ b
two_writes n k a post b h e =
    let none : drop k (drop n (a ++ post)) ≡ [] = ap (drop k) (drop_at a post n h) ∙ drop_all k post (omega (arith, length-append a post)) in
    ap (λ t. t ++ (b ++ drop k (drop n (a ++ post)))) (take_at a post n h) ∙ ap (λ t. a ++ (b ++ t)) none ∙ ap (λ t. a ++ t) (append-nil b)
