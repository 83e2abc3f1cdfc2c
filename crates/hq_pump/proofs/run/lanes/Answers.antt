use Rattle.std.proofs.Common.{◌≡◌, ℕ, ◌<◌, ◌++◌, ◌∷◌, [], List, length, map, Vec, Global, subst, sym, ap, ◌∙◌, arith}
use Rattle.std.specs.Prelude.{All}
use Rattle.hq_pump.specs.declared.lane.Lane.{Lane}
use Rattle.hq_pump.specs.Seen.{seen}
use Rattle.hq_pump.specs.Pumping.{new_lane, AreShort}
use Rattle.hq_pump.proofs.Streams.{first_stream, others_all, one_made, short_more}
use Rattle.hq_pump.proofs.run.lanes.Goals as goal

pub streams-preserved : goal.streams-preserved
streams-preserved c =
    let some : 0 < length c.streams.streams.items = omega (arith, c.remove-from.ensures.len) in
    let lane : Lane = new_lane c.args.query c.args.motion c.args.to (c.remove-from.result.0, c.remove-from.result.1.items) in
    let made : ◌≡◌ {A = Lane} (record { sender = c.new-sender.result; receiver = c.in_ok-receiver.receiver }) lane = λ k. record { sender = c.new-sender.ensures k; receiver = c.in_ok-receiver.ensures k } in
    record {
      made = one_made c.streams.lanes.items c.push.new.self.items lane (map (new_lane c.args.query c.args.motion c.args.to) (seen c.args.streams.items)) (map (new_lane c.args.query c.args.motion c.args.to) (seen c.remove-from.new.self.items)) (map (new_lane c.args.query c.args.motion c.args.to) (seen c.streams.streams.items)) c.streams.invariant.made
          (first_stream c.streams.streams.items c.remove-from.result c.args.query c.args.motion c.args.to some c.remove-from.ensures.value ∙ ap (λ (l : List (ℕ × Vec ℕ Global)). lane ∷ map (new_lane c.args.query c.args.motion c.args.to) (seen l)) (sym c.remove-from.ensures.items))
          (c.in_ok-push.ensures.items ∙ ap (λ (l : Lane). c.streams.lanes.items ++ l ∷ []) made);
      short = subst AreShort (sym (c.in_ok-push.ensures.items ∙ ap (λ (l : Lane). c.streams.lanes.items ++ l ∷ []) made)) (short_more c.streams.lanes.items lane c.streams.invariant.short (omega (arith, c.len-count.ensures)));
      below = subst (λ (l : List (ℕ × Vec ℕ Global)). All (λ stream. stream.0 < 16) l) (sym c.remove-from.ensures.items) (others_all (λ stream. stream.0 < 16) c.streams.streams.items c.streams.invariant.below);
    }

pub new-requires-clause-from : goal.new-requires-clause-from
new-requires-clause-from c =
    let some : 0 < length c.streams.streams.items = omega (arith, c.remove-from.ensures.len) in
    subst (λ (s : ℕ × Vec ℕ Global). s.0 < 16) (sym c.remove-from.ensures.value) (c.streams.invariant.below 0 c.remove-from.result some)
