-- From a dealt key and two evaluations to the join.
use Rattle.std.proofs.Common.{◌≡◌, ℕ, ◌^◌, Bool, true, false, ◌&&◌, List, map, length, sym, refl, ap, ◌∙◌}
use Rattle.std.proofs.lemmas.Bool.{ltb-true}
use Rattle.group.specs.Groups.{OutputGroup}
use Rattle.expander.specs.Meaning.{Expansion}
use Rattle.expander.specs.declared.Seed.{Seed}
use Rattle.key.specs.declared.Row.{Row}
use Rattle.key.specs.Rows.{row_mean}
use Rattle.evaluation.specs.Evaluation.{evaluated}
use Rattle.dealing.specs.Dealing.{start, dealt_rows, dealt_last}
use Rattle.joining.specs.Joining.{AllWide, dealt_answer, compared}
use Rattle.joining.proofs.Same.{same_evaluated}
use Rattle.joining.proofs.Meeting.{joins}
use Rattle.comparison.specs.declared.Answers.{Answers}
use Rattle.comparison.specs.Questions.{is_in_range}
use Rattle.comparison.specs.Comparison.{answers_mean, both_answers}

pub both_left : (a b : Bool) → a && b ≡ true → a ≡ true
both_left true b h = refl
both_left false b h = h

pub both_right : (a b : Bool) → a && b ≡ true → b ≡ true
both_right true b h = h
both_right false true h = refl
both_right false false h = h

module _ {G M : Type 0} (g : OutputGroup M) (mean : G → M) (d : Expansion) (n α : ℕ) (β : M) (root0 root1 : Seed) (m : ℕ)
    (before after rows : List (Row G)) (last : G) (all : length before ≡ n)
    (dealt : map (row_mean mean) after ≡ dealt_rows d g β α (length before) (start g root0 root1)) (read : rows ≡ after)
    (last_dealt : mean last ≡ dealt_last d g β α (length before) (start g root0 root1)) where
  rows_are : map (row_mean mean) rows ≡ dealt_rows d g β α n (start g root0 root1)
  rows_are = ap (map (row_mean mean)) read ∙ dealt ∙ ap (λ k. dealt_rows d g β α k (start g root0 root1)) all

  last_is : mean last ≡ dealt_last d g β α n (start g root0 root1)
  last_is = last_dealt ∙ ap (λ k. dealt_last d g β α k (start g root0 root1)) all

  -- evaluating the dealt rows is evaluating the defined ones
  answer_is : (x : Expansion) (one : Bool) (root : Seed) (a : G) → mean a ≡ evaluated x g mean one root rows last m
      → mean a ≡ dealt_answer g d x n α β root0 root1 one root m
  answer_is x one root a e =
      e ∙ same_evaluated x g mean one root rows last m
      ∙ ap (λ rs. evaluated x g (λ (v : M). v) one root rs (mean last) m) rows_are
      ∙ ap (λ l. evaluated x g (λ (v : M). v) one root (dealt_rows d g β α n (start g root0 root1)) l m) last_is

  module _ (x y : Expansion) (a0 a1 j : G)
      (e0 : mean a0 ≡ evaluated x g mean false root0 rows last m)
      (e1 : mean a1 ≡ evaluated y g mean true root1 rows last m)
      (ej : mean j ≡ g.sum (mean a0) (mean a1)) where
    abbrev b0 : M
    b0 = dealt_answer g d x n α β root0 root1 false root0 m

    abbrev b1 : M
    b1 = dealt_answer g d y n α β root0 root1 true root1 m

    sum_is : mean j ≡ g.sum b0 b1
    sum_is = ej ∙ ap (λ v. g.sum v (mean a1)) (answer_is x false root0 a0 e0) ∙ ap (g.sum b0) (answer_is y true root1 a1 e1)

    abbrev three : M → M → M → Answers M
    three p q r = record { answer0 = p; answer1 = q; joined = r }

    pub answers_are : answers_mean mean (record { answer0 = a0; answer1 = a1; joined = j }) ≡ both_answers g d x y n α β root0 root1 m
    answers_are =
        ap (λ p. three p (mean a1) (mean j)) (answer_is x false root0 a0 e0)
        ∙ ap (λ q. three b0 q (mean j)) (answer_is y true root1 a1 e1)
        ∙ ap (three b0 b1) sum_is

    -- one meaning and kind: the join is the comparison
    pub join_is : AllWide d → d ≡ x → d ≡ y → is_in_range n α && is_in_range n m ≡ true → mean j ≡ compared g α β m
    join_is wide ex ey fits =
        sum_is
        ∙ ap (λ z. g.sum (dealt_answer g d z n α β root0 root1 false root0 m) b1) (sym ex)
        ∙ ap (λ z. g.sum (dealt_answer g d d n α β root0 root1 false root0 m) (dealt_answer g d z n α β root0 root1 true root1 m)) (sym ey)
        ∙ joins d g β α m wide n root0 root1
        (ltb-true m (2 ^ n) (both_right (is_in_range n α) (is_in_range n m) fits))
        (ltb-true α (2 ^ n) (both_left (is_in_range n α) (is_in_range n m) fits))
