use Rattle.std.proofs.Common.{◌+◌, ◌&&◌, drop, get_or, arith, ap, sym, ◌∙◌}
use Rattle.std.proofs.lemmas.List.{take_rest, at_drop_all}
use Rattle.hq_io.specs.Pieces.{says_nothing, behind, is_blank_from}
use Rattle.hq_io.proofs.Blanks.{blank-more}
use Rattle.hq_io.proofs.place.is_blank.Goals as goal

pub returns-then-not-says_nothing : goal.returns-then-not-says_nothing
returns-then-not-says_nothing c =
    let text = c.args.text.now in
    let b = get_or text c.loop-at.at 0 in
    let rest = drop (c.loop-at.at + 1) text in
    let says = sym (ap (says_nothing c.loop-at.place b) (take_rest text (c.loop-at.at + 1))) ∙ sym c.says_nothing.ensures ∙ c.if-not-says_nothing.true in
    sym (sym c.loop-at.invariant.blank ∙ blank-more c.loop-at.place text c.loop-at.at c.loop-at-test.true ∙ ap (λ v. v && is_blank_from (behind c.loop-at.place b rest) rest) says)

pub loop-at-preserved : goal.loop-at-preserved
loop-at-preserved c =
    let text = c.args.text.now in
    let b = get_or text c.loop-at.at 0 in
    let rest = drop (c.loop-at.at + 1) text in
    let says = sym (ap (says_nothing c.loop-at.place b) (take_rest text (c.loop-at.at + 1))) ∙ sym c.says_nothing.ensures ∙ c.if-not-says_nothing.false in
    let next = c.behind-place.ensures ∙ ap (behind c.loop-at.place b) (take_rest text (c.loop-at.at + 1)) in
    record {
      blank = ap (λ p. is_blank_from p rest) next ∙ sym (blank-more c.loop-at.place text c.loop-at.at c.loop-at-test.true ∙ ap (λ v. v && is_blank_from (behind c.loop-at.place b rest) rest) says) ∙ c.loop-at.invariant.blank;
    }

pub returns : goal.returns
returns c = sym (at_drop_all (is_blank_from c.loop-at.place) c.args.text.now c.loop-at.at (omega arith)) ∙ c.loop-at.invariant.blank
