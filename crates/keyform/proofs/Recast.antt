-- Keys in memory and keys of meanings have the same bytes: from one to the other, either way.
use Rattle.std.proofs.Common.{◌≡◌, ℕ, ◌^◌, List, ◌++◌, map, sym, refl, ap, ◌∙◌}
use Rattle.std.proofs.lemmas.List.{length-map}
use Rattle.group.specs.Residues.{Residue}
use Rattle.group.specs.declared.Flags.{Flags}
use Rattle.group.specs.declared.Pair.{Pair}
use Rattle.group.specs.declared.Word as code
use Rattle.key.specs.Rows.{row_mean}
use Rattle.stored.specs.Forms.{four_bytes}
use Rattle.shares.specs.Words.{Word, Quad}
use Rattle.layout.specs.Keys.{Compared, compared_bytes, word_bytes, flag_bytes, quad_bytes}
use Rattle.layout.specs.Wires.{interval_bytes}
use Rattle.keyform.specs.Forms.{word_form, flag_form, quad_form}
use Rattle.keyform.specs.Reads.{KeyIn}
use Rattle.keyform.specs.GateKeys.{IntervalIn, ShiftIn, two_keys_bytes}
use Rattle.keyform.proofs.Meanings.{key_means}

-- elements in memory with the bytes of a meaning
abbrev pub word_of : Word → code.Word
word_of w = record { 0 = w.0 }

abbrev pub flags_of : Residue (2 ^ 32) → Flags
flags_of f = record { 0 = f.0 }

abbrev pub quad_of : Quad → Pair (Pair code.Word code.Word) (Pair code.Word code.Word)
quad_of q = record {
  left = record { left = word_of q.0.0; right = word_of q.0.1 };
  right = record { left = word_of q.1.0; right = word_of q.1.1 };
}

pub word_of_form : (w : Word) → word_bytes w ≡ word_form (word_of w)
word_of_form w = refl

pub flags_of_form : (f : Residue (2 ^ 32)) → flag_bytes f ≡ flag_form (flags_of f)
flags_of_form f = refl

pub quad_of_form : (q : Quad) → quad_bytes q ≡ quad_form (quad_of q)
quad_of_form q = refl

module _ {A B : Type 0} (form : A → List ℕ) (other : B → List ℕ) (f : A → B) (same : (a : A) → form a ≡ other (f a)) where
  -- a comparison key with its elements exchanged
  abbrev pub compared_recast : Compared A → Compared B
  compared_recast k = record { root = k.root; rows = map (row_mean f) k.rows; last = f k.last }

  pub compared_same : (k : Compared A) → compared_bytes form k ≡ compared_bytes other (compared_recast k)
  compared_same k = key_means form other f same k.root k.rows k.last

  pub interval_same : (k : Compared A) (payload extra : A) (out : ℕ)
      → interval_bytes form k payload extra out ≡ interval_bytes other (compared_recast k) (f payload) (f extra) out
  interval_same k payload extra out =
      ap (λ t. t ++ (form payload ++ (form extra ++ four_bytes out))) (compared_same k)
      ∙ ap (λ t. compared_bytes other (compared_recast k) ++ (t ++ (form extra ++ four_bytes out))) (same payload)
      ∙ ap (λ t. compared_bytes other (compared_recast k) ++ (other (f payload) ++ (t ++ four_bytes out))) (same extra)

  pub two_keys_same : (low high : Compared A) (rest : ℕ)
      → two_keys_bytes form low high rest ≡ two_keys_bytes other (compared_recast low) (compared_recast high) rest
  two_keys_same low high rest =
      ap (λ t. t ++ (compared_bytes form high ++ four_bytes rest)) (compared_same low)
      ∙ ap (λ t. compared_bytes other (compared_recast low) ++ (t ++ four_bytes rest)) (compared_same high)

  pub key_recast : (n : ℕ) (bytes : List ℕ) → KeyIn form n bytes → KeyIn other n bytes
  key_recast n bytes k = record {
    root = k.root;
    rows = map (row_mean f) k.rows;
    last = f k.last;
    count = length-map k.rows (row_mean f) ∙ k.count;
    same = sym (key_means form other f same k.root k.rows k.last) ∙ k.same;
  }

  pub interval_recast : (n : ℕ) (bytes : List ℕ) → IntervalIn form n bytes → IntervalIn other n bytes
  interval_recast n bytes i = record {
    key = compared_recast i.key;
    payload = f i.payload;
    extra = f i.extra;
    out = i.out;
    count = length-map i.key.rows (row_mean f) ∙ i.count;
    same = sym (interval_same i.key i.payload i.extra i.out) ∙ i.same;
  }

  pub shift_recast : (n m : ℕ) (bytes : List ℕ) → ShiftIn form n m bytes → ShiftIn other n m bytes
  shift_recast n m bytes i = record {
    low = compared_recast i.low;
    high = compared_recast i.high;
    rest = i.rest;
    low_count = length-map i.low.rows (row_mean f) ∙ i.low_count;
    high_count = length-map i.high.rows (row_mean f) ∙ i.high_count;
    same = sym (two_keys_same i.low i.high i.rest) ∙ i.same;
  }
