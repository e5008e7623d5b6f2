use Rattle.std.proofs.Common.{◌≡◌, ◌+◌, get_or, drop, sym, ap, ◌∙◌, refl, arith, get_or-drop}
use Rattle.std.proofs.lemmas.List.{drop-drop}
use Rattle.plan.specs.Plans.{stated, wire_words, words_at, words_before}
use Rattle.masks.specs.Masks.{wire_mask, mask_at}
use Rattle.masks.proofs.Tables.{words_more, masks_turn, mask_of_wire, words_of_wire}
use Rattle.masks.proofs.masks_of.Goals as goal

pub loop-k-preserved : goal.loop-k-preserved
loop-k-preserved c =
    let p = stated c.args.plan in
    let k = c.loop-k.k in
    let masks = c.loop-k.masks in
    let words = c.args.words.now in
    let u = words_before p k in
    let i = c.loop-k.invariant in
    let word = c.word_in.result in
    let z : u + 0 ≡ u = omega arith in
    let w : word ≡ get_or words u 0 =
    c.word_in.ensures ∙ ap (λ xs. get_or xs 0 0) i.1 ∙ get_or-drop u words 0 0 ∙ ap (λ j. get_or words j 0) z in
    let m : c.wire_mask-mask.result ≡ mask_at p masks word k =
    c.wire_mask-mask.ensures ∙ (λ j. wire_mask (sym c.requires.1 j) masks word (c.wire-wire.ensures j)) ∙ mask_of_wire p masks word k in
    let n : c.words.result ≡ words_at p k = c.words.ensures.count ∙ ap wire_words c.wire-wire.ensures ∙ words_of_wire p k in (
      masks_turn p words k masks u word c.wire_mask-mask.result i.0 refl w m,
      c.after-left.ensures ∙ (λ j. drop (n j) (i.1 j)) ∙ drop-drop (words_at p k) u words ∙ ap (λ j. drop j words) (sym (words_more p k)),
    )
