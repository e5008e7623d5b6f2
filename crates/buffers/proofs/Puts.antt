use mathlib.Core.Path.{◌≡◌, refl, sym, ap, ◌∙◌}
use mathlib.Core.List.{List, [], ◌++◌, append_assoc}
use Prim.Native.Nat.{ℕ, ◌+◌, ◌≤◌}
use native.Mathlib.Nat.{add-zero}
use native.Mathlib.Omega.{arith}
use lib.ListN.{length, take, drop, length-append, length-drop, take-append-drop}
use lib.Seq.{take_at, drop_at, drop-drop, length-take-le}
use borrow.Rule.Slice.PartMut.{put_mid}
use Rattle.buffers.specs.Forms.{put_at, Put, Room}
use Rattle.buffers.specs.declared.Writer.{Writer}

pub put_at_is : (out : List ℕ) (at : ℕ) (bs : List ℕ) → put_at out at bs ≡ take at out ++ (bs ++ drop (at + length bs) out)
unfolding put_at
put_at_is out at bs = refl

-- what a write to `out[at..at + n]` leaves
pub mid_is_put_at : (out : List ℕ) (at k : ℕ) (bs : List ℕ) → k ≡ length bs → put_mid at k out bs ≡ put_at out at bs
mid_is_put_at out at k bs e = ap (λ t. take at out ++ (bs ++ t)) (drop-drop k at out ∙ ap (λ n. drop (at + n) out) e) ∙ sym (put_at_is out at bs)

pub length_put_at : (out : List ℕ) (at : ℕ) (bs : List ℕ) → at + length bs ≤ length out → length (put_at out at bs) ≡ length out
length_put_at out at bs h =
    ap length (put_at_is out at bs) ∙ simp (length-append, length-drop) (omega (arith, length-take-le at out (omega arith)))

pub put_at_none : (out : List ℕ) (at : ℕ) → put_at out at [] ≡ out
put_at_none out at = put_at_is out at [] ∙ ap (λ n. take at out ++ drop n out) (add-zero at) ∙ take-append-drop at out

pub put_at_start : (out bs : List ℕ) → put_at out 0 bs ≡ bs ++ drop (length bs) out
put_at_start out bs = put_at_is out 0 bs ∙ (let e : 0 + length bs ≡ length bs = omega arith in ap (λ n. bs ++ drop n out) e)

-- one write after another is one write of both
pub put_at_join : (out : List ℕ) (at : ℕ) (a b : List ℕ) (n : ℕ) → n ≡ at + length a → at + length a ≤ length out
    → put_at (put_at out at a) n b ≡ put_at out at (a ++ b)
put_at_join out at a b n e h =
    let front = take at out ++ a in
    let rest = drop (at + length a) out in
    let now : put_at out at a ≡ front ++ rest = put_at_is out at a ∙ sym (append_assoc (take at out) a rest) in
    let long : length front ≡ n = omega (arith, length-append (take at out) a, length-take-le at out (omega arith)) in
    let more : at + length a + length b ≡ at + length (a ++ b) = omega (arith, length-append a b) in
    let past : drop (n + length b) (front ++ rest) ≡ drop (at + length (a ++ b)) out =
    sym (drop-drop (length b) n (front ++ rest)) ∙ ap (drop (length b)) (drop_at front rest n long) ∙ drop-drop (length b) (at + length a) out ∙ ap (λ m. drop m out) more in
    put_at_is (put_at out at a) n b
    ∙ ap (λ o. take n o ++ (b ++ drop (n + length b) o)) now
    ∙ ap (λ t. t ++ (b ++ drop (n + length b) (front ++ rest))) (take_at front rest n long)
    ∙ ap (λ t. front ++ (b ++ t)) past
    ∙ append_assoc (take at out) a _
    ∙ ap (λ t. take at out ++ t) (sym (append_assoc a b _))
    ∙ sym (put_at_is out at (a ++ b))

pub put_long : {w w1 : Writer} {a : List ℕ} → Put w a w1 → length w1.out.now ≡ length w.out.now
put_long {w} {w1} {a} p = ap length p.after ∙ length_put_at w.out.now w.at a p.fits

-- one part after another
pub then : {w w1 w2 : Writer} {a b : List ℕ} → Put w a w1 → Put w1 b w2 → Put w (a ++ b) w2
then {w} {w1} {w2} {a} {b} p q =
    let l = put_long p in
    let s = length-append a b in
    let i = p.next in
    let j = q.next in
    let k = q.fits in
    record {
      after = q.after ∙ ap (λ o. put_at o w1.at b) p.after ∙ put_at_join w.out.now w.at a b w1.at p.next p.fits;
      next = omega arith;
      fits = omega arith;
      same = q.same ∙ p.same;
    }

-- in a loop: what is still to be written, `rest`, to have all of `bs` written from `start` on
pub record Owes (start : Writer) (bs : List ℕ) (w : Writer) (rest : List ℕ) : Type 0 where
  pub after : put_at w.out.now w.at rest ≡ put_at start.out.now start.at bs
  pub ends : w.at + length rest ≡ start.at + length bs
  pub long : length w.out.now ≡ length start.out.now
  pub fits : start.at + length bs ≤ length start.out.now
  pub same : w.out.ghost_name ≡ start.out.ghost_name

pub owes_all : (w : Writer) (bs : List ℕ) → Room w bs → Owes w bs w bs
owes_all w bs h = record { after = refl; ends = refl; long = refl; fits = h.fits; same = refl }

pub owes_less : {start w w1 : Writer} {bs a rest : List ℕ} → Owes start bs w (a ++ rest) → Put w a w1 → Owes start bs w1 rest
owes_less {start} {w} {w1} {bs} {a} {rest} o p =
    let s = length-append a rest in
    let i = p.next in
    let e = o.ends in
    record {
      after = ap (λ t. put_at t w1.at rest) p.after ∙ put_at_join w.out.now w.at a rest w1.at p.next p.fits ∙ o.after;
      ends = omega arith;
      long = put_long p ∙ o.long;
      fits = o.fits;
      same = p.same ∙ o.same;
    }

pub owes_none : {start w : Writer} {bs : List ℕ} → Owes start bs w [] → Put start bs w
owes_none {start} {w} {bs} o =
    let e = o.ends in
    record { after = sym (put_at_none w.out.now w.at) ∙ o.after; next = omega arith; fits = o.fits; same = o.same }

-- the room for a part and for what follows it
pub room_first : {w : Writer} (a rest : List ℕ) → Room w (a ++ rest) → Room w a
room_first a rest h = let f = h.fits in record { fits = omega (arith, length-append a rest) }

pub room_next : {w w1 : Writer} {a : List ℕ} (rest : List ℕ) → Put w a w1 → Room w (a ++ rest) → Room w1 rest
room_next {w} {w1} {a} rest p h =
    let l = put_long p in
    let i = p.next in
    let f = h.fits in
    record { fits = omega (arith, length-append a rest) }

pub room_owed : {start w : Writer} {bs : List ℕ} (a rest : List ℕ) → Owes start bs w (a ++ rest) → Room w a
room_owed a rest o =
    let e = o.ends in
    let f = o.fits in
    let l = o.long in
    record { fits = omega (arith, length-append a rest) }

pub put_as : {w w1 : Writer} {a b : List ℕ} → a ≡ b → Put w a w1 → Put w b w1
put_as {w} e p = rw (← e) p

pub owes_as : {start w : Writer} {bs a b : List ℕ} → a ≡ b → Owes start bs w a → Owes start bs w b
owes_as e o = rw (← e) o

pub room_as : {w : Writer} {a b : List ℕ} → a ≡ b → Room w a → Room w b
room_as e p = rw (← e) p

pub put_none : (w : Writer) → w.at ≤ length w.out.now → Put w [] w
put_none w h = record { after = sym (put_at_none w.out.now w.at); next = sym (add-zero w.at); fits = rw add-zero h; same = refl }
