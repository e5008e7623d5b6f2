-- The key of a product taken apart: three numbers.
use Rattle.std.proofs.Common.{◌≡◌, ℕ, List, ◌++◌, sym, ap, ◌∙◌, append_assoc}
use Rattle.group.specs.declared.Flags.{Flags}
use Rattle.stored.specs.Forms.{four_bytes}
use Rattle.keyform.specs.Forms.{flag_form}
use Rattle.keyform.specs.Reads.{LastIn, LastRead}
use Rattle.keyform.specs.GateKeys.{ProductIn, three_numbers}
use Rattle.keyform.proofs.Forms.{flag_sized}
use Rattle.keyform.proofs.Ends.{before_last}

-- two numbers, one after the other
pub record PairIn (bytes : List ℕ) : Type 0 where
  pub a : ℕ
  pub b : ℕ
  pub same : four_bytes a ++ four_bytes b ≡ bytes

third_last : (bytes : List ℕ) (i : ProductIn bytes) → (four_bytes i.a ++ four_bytes i.b) ++ four_bytes i.c ≡ bytes
third_last bytes i = append_assoc (four_bytes i.a) (four_bytes i.b) (four_bytes i.c) ∙ i.same

pub third_in : (bytes : List ℕ) → ProductIn bytes → LastIn flag_form bytes
third_in bytes i = record {
  front = four_bytes i.a ++ four_bytes i.b;
  last = record { 0 = i.c };
  same = third_last
      bytes i;
}

pub second_in : (bytes : List ℕ) → PairIn bytes → LastIn flag_form bytes
second_in bytes i = record { front = four_bytes i.a; last = record { 0 = i.b }; same = i.same }

pub without_third : (bytes two : List ℕ) (third : Flags) → LastRead flag_form bytes two third → ProductIn bytes
    → PairIn two
without_third bytes two third r i = record {
  a = i.a;
  b = i.b;
  same = before_last flag_form 4 flag_sized bytes two (four_bytes i.a ++ four_bytes i.b) third (record { 0 = i.c })
      r (third_last bytes i);
}

pub without_second : (bytes one : List ℕ) (second : Flags) → LastRead flag_form bytes one second → (i : PairIn bytes)
    → four_bytes i.a ≡ one
without_second bytes one second r i =
    before_last flag_form 4 flag_sized bytes one (four_bytes i.a) second (record { 0 = i.b }) r i.same

pub product_read : (bytes two one : List ℕ) (first second third : Flags) → two ++ flag_form third ≡ bytes
    → one ++ flag_form second ≡ two
    → flag_form first ≡ one → three_numbers first.0 second.0 third.0 ≡ bytes
product_read bytes two one first second third h3 h2 h1 =
    sym (append_assoc (flag_form first) (flag_form second) (flag_form third))
    ∙ ap (λ t. (t ++ flag_form second) ++ flag_form third) h1 ∙ ap (λ t. t ++ flag_form third) h2 ∙ h3
