-- A round is a list of calls.
use Rattle.std.proofs.Common.{◌≡◌, ℕ, zero, suc, Bool, true, false, cond, List, [], ◌∷◌, ◌++◌, refl, ap, ◌∙◌, arith}
use Rattle.key.specs.declared.BoxNumber.{BoxNumber}
use Rattle.key.specs.declared.BoxNumber.TheVariants.{Zero, One}
use Rattle.runs.specs.Plans.{other, Wiring, Deal, is_input, wires}
use Rattle.runs.specs.Boxes.{Act, Put, Work, Send, Take, Answer, Done, Sent, Shown, Counted, Refused, step}
use Rattle.runs.specs.Runs.{Call, call, event, Here, box_at, next_at, next, after, Wrote, Handed, Fair, last_answer, take_if, exchange, begun, round_from}
use Rattle.runs.specs.Theorem.{RoundsRun}
use Rattle.runs.proofs.Filling.{not_take, is_handed}
use Rattle.runs.proofs.Rounds.{next_wrote, take_if_wrote, last_wrote}

module _ (p : Wiring) (d : Deal) where
  abbrev Run : Here → Here → Type 0
  Run h g = (cs : List Call) × (g ≡ after p d h cs) × (Fair h.past → Fair g.past)

  joined_after : (h : Here) (cs es : List Call) → after p d (after p d h cs) es ≡ after p d h (cs ++ es)
  joined_after h [] es = refl
  joined_after h (c ∷ cs) es = joined_after (next p d h c) cs es

  stay : (h : Here) → Run h h
  stay h = ([], refl, λ q. q)

  both : (h g k : Here) → Run h g → Run g k → Run h k
  both h g k r s = (r.0 ++ s.0, s.1 ∙ ap (λ (x : Here). after p d x s.0) r.1 ∙ joined_after h r.0 s.0, λ q. s.2 (r.2 q))

  fair_more : (b : BoxNumber) (h : Here) (a : Act) → Handed h.past (event b a (step p d b (box_at b h) a).0) → Fair h.past → Fair (next_at p d b h a).past
  fair_more Zero h a w q = (w, q)
  fair_more One h a w q = (w, q)

  one : (b : BoxNumber) (h : Here) (a : Act) → Handed h.past (event b a (step p d b (box_at b h) a).0) → Run h (next_at p d b h a)
  one b h a w = (call b a ∷ [], refl, fair_more b h a w)

  put_run : (b : BoxNumber) (h : Here) (k v : ℕ) → Run h (next_at p d b h (Put k v))
  put_run b h k v = one b h (Put k v) (not_take h.past b (Put k v) _ (omega arith))

  work_run : (b : BoxNumber) (h : Here) (k : ℕ) → Run h (next_at p d b h (Work k))
  work_run b h k = one b h (Work k) (not_take h.past b (Work k) _ (omega arith))

  send_run : (b : BoxNumber) (h : Here) (k room : ℕ) → Run h (next_at p d b h (Send k room))
  send_run b h k room = one b h (Send k room) (not_take h.past b (Send k room) _ (omega arith))

  take_if_run : (b : BoxNumber) (x : Answer) (h : Here) → ((m : List ℕ) → x ≡ Sent m → Wrote (other b) m h.past) → Run h (take_if p d b x h)
  take_if_run b Done h w = stay h
  take_if_run b (Sent m) h w = one b h (Take m) (is_handed h.past b m _ (w m refl))
  take_if_run b (Shown x) h w = stay h
  take_if_run b (Counted u v) h w = stay h
  take_if_run b (Refused n) h w = stay h

  -- stated of any states, so that nothing of the steps computes here
  four : (h h1 h2 h3 h4 : Here) → Run h h1 → Run h1 h2 → Run h2 h3 → Run h3 h4 → Run h h4
  four h h1 h2 h3 h4 a b c e = both h h1 h4 a (both h1 h2 h4 b (both h2 h3 h4 c e))

  exchange_run : (k : ℕ) (h : Here) → Run h (exchange p d k h)
  exchange_run k h =
      let h1 : Here = next_at p d Zero h (Send k 10) in
      let h2 : Here = next_at p d One h1 (Send k 10) in
      let h3 : Here = take_if p d One (last_answer h1.past) h2 in
      four h h1 h2 h3 (take_if p d Zero (last_answer h2.past) h3) (send_run Zero h k 10) (send_run One h1 k 10)
      (take_if_run One (last_answer h1.past) h2 (λ m e. next_wrote p d One Zero h1 (Send k 10) m (last_wrote p d Zero h (Send k 10) m e)))
      (take_if_run Zero (last_answer h2.past) h3 (λ m e. take_if_wrote p d One One (last_answer h1.past) h2 m (last_wrote p d One h1 (Send k 10) m e)))

  begun_run : (vs : ℕ → ℕ) (k : ℕ) (h : Here) → Run h (begun p d vs k h)
  begun_run vs k h = go (is_input p k)
    where
      go : (t : Bool) → Run h (cond t (next_at p d (p.owner k) h (Put k (vs k))) (next_at p d One (next_at p d Zero h (Work k)) (Work k)))
      go true = put_run (p.owner k) h k (vs k)
      go false = both h (next_at p d Zero h (Work k)) _ (work_run Zero h k) (work_run One (next_at p d Zero h (Work k)) k)

  from_run : (vs : ℕ → ℕ) (n k : ℕ) (h : Here) → Run h (round_from p d vs n k h)
  from_run vs zero k h = stay h
  from_run vs (suc n) k h =
      let g : Here = begun p d vs k h in
      let e : Here = exchange p d k g in
      both h e _ (both h g e (begun_run vs k h) (exchange_run k g)) (from_run vs n (suc k) e)

pub rounds_run : RoundsRun
rounds_run p d vs h = from_run p d vs (wires p) 0 h
