use Rattle.std.proofs.Common.{◌≡◌, position, sym, ◌∙◌, rules, tests}
use Rattle.std.proofs.lemmas.Iterator.{YieldsList-from_slice}
use Rattle.std.proofs.lemmas.Iterator.Search.{position_from_yields_List}
use Rattle.hq_log.specs.Places.{is_clean}
use Rattle.hq_pool.specs.Slots.{place_of}
use Rattle.hq_pool.proofs.Found.{position-map}
use Rattle.hq_pool.proofs.next.lowest_clean.Goals as goal

pub returns : goal.returns
returns g c =
    let found : c.position.result ≡ position (λ slot. is_clean (place_of slot)) c.args.slots.now = position_from_yields_List (λ slot. is_clean (place_of slot)) _ _ c.position.result c.position.ensures.ran (YieldsList-from_slice c.args.slots.now cc) (λ x b q k. search (rules, tests)) in
    found ∙ sym (position-map place_of is_clean c.args.slots.now)
