use Rattle.std.proofs.Common.{List, true, false, Some, None, sym, ap, ◌∙◌, arith}
use Rattle.hq_link.specs.Reading.{gram_at}
use Rattle.hq_link.specs.Streams.{ack_in}
use Rattle.hq_send.specs.Sending.{Sending}
use Rattle.hq_pump.specs.declared.lane.Lane.{Lane}
use Rattle.hq_pump.specs.Pumping.{place_of, stream_left}
use Rattle.hq_pump.proofs.Turning.{place_read, place_below, own_at, work_anew}
use Rattle.hq_pump.proofs.Listening.{missed_nobodys, told_run, heard_at}
use Rattle.hq_pump.proofs.Work.{acked_less}
use Rattle.hq_pump.proofs.turn.hear.Goals as goal

pub returns-in_default-clause-runs : goal.returns-in_default-clause-runs
returns-in_default-clause-runs g c s count into comes =
    missed_nobodys s c.args.lanes.now.items c.args.base count into (g.L.Link.state c.args.link.now) c.args.bytes.now (g.T.Take.taken c.args.take.now) comes
    (sym (c.place_of.ensures ∙ ap (λ (xs : List Lane). place_of xs c.args.bytes.now) c.deref.ensures.value) ∙ c.in_default.is)

pub returns-then-on_ack-clause-runs : goal.returns-then-on_ack-clause-runs
returns-then-on_ack-clause-runs g c s count into comes =
    let found = sym (c.place_of.ensures ∙ ap (λ (xs : List Lane). place_of xs c.args.bytes.now) c.deref.ensures.value) ∙ c.in-Some.is in
    let lane = c.index_mut-lane.result.now in
    let there = place_read c.args.lanes.now.items c.in-Some.place lane (place_below c.args.lanes.now.items (gram_at c.args.bytes.now) c.in-Some.place found) c.index_mut-lane.ensures.value in
    let ack = sym (c.ack_in.ensures ∙ ap (λ r. ack_in r c.args.bytes.now) c.route.ensures) ∙ c.in-Some-ack_in.is in
    let left_is = ap (λ (x : Sending). record lane { sender = x }) c.on_ack.ensures.after in
    told_run s c.args.lanes.now.items c.args.base c.troubles-now.result count into (g.L.Link.state c.args.link.now) c.args.bytes.now (g.T.Take.taken c.args.take.now) c.in-Some.place lane (record lane { sender = c.on_ack.new.self }) c.in-Some-ack_in.n true comes there ack left_is (sym c.if-on_ack.true ∙ c.on_ack.ensures.new) c.troubles-now.ensures

pub returns-then-on_ack-clause-less : goal.returns-then-on_ack-clause-less
returns-then-on_ack-clause-less g c =
    let found = sym (c.place_of.ensures ∙ ap (λ (xs : List Lane). place_of xs c.args.bytes.now) c.deref.ensures.value) ∙ c.in-Some.is in
    let lane = c.index_mut-lane.result.now in
    let there = place_read c.args.lanes.now.items c.in-Some.place lane (place_below c.args.lanes.now.items (gram_at c.args.bytes.now) c.in-Some.place found) c.index_mut-lane.ensures.value in
    let left_is = ap (λ (x : Sending). record lane { sender = x }) c.on_ack.ensures.after in
    let le = acked_less lane c.in-Some-ack_in.n (g.L.Link.state c.args.link.now) c.args.base c.troubles-now.result true (sym c.if-on_ack.true ∙ c.on_ack.ensures.new) c.troubles-now.ensures in
    work_anew c.args.lanes.now.items c.in-Some.place lane (record lane { sender = c.on_ack.new.self }) (g.L.Link.state c.args.link.now) (g.L.Link.state c.args.link.now) c.args.base c.troubles-now.result _ there (omega (arith, le, ap (λ (l : Lane). stream_left l.sender) left_is))

pub returns-else-on_ack-clause-runs : goal.returns-else-on_ack-clause-runs
returns-else-on_ack-clause-runs g c s count into comes =
    let found = sym (c.place_of.ensures ∙ ap (λ (xs : List Lane). place_of xs c.args.bytes.now) c.deref.ensures.value) ∙ c.in-Some.is in
    let lane = c.index_mut-lane.result.now in
    let there = place_read c.args.lanes.now.items c.in-Some.place lane (place_below c.args.lanes.now.items (gram_at c.args.bytes.now) c.in-Some.place found) c.index_mut-lane.ensures.value in
    let ack = sym (c.ack_in.ensures ∙ ap (λ r. ack_in r c.args.bytes.now) c.route.ensures) ∙ c.in-Some-ack_in.is in
    let left_is = ap (λ (x : Sending). record lane { sender = x }) c.on_ack.ensures.after in
    told_run s c.args.lanes.now.items c.args.base c.troubles-now.result count into (g.L.Link.state c.args.link.now) c.args.bytes.now (g.T.Take.taken c.args.take.now) c.in-Some.place lane (record lane { sender = c.on_ack.new.self }) c.in-Some-ack_in.n false comes there ack left_is (sym c.if-on_ack.false ∙ c.on_ack.ensures.new) c.troubles-now.ensures

pub returns-else-on_ack-clause-less : goal.returns-else-on_ack-clause-less
returns-else-on_ack-clause-less g c =
    let found = sym (c.place_of.ensures ∙ ap (λ (xs : List Lane). place_of xs c.args.bytes.now) c.deref.ensures.value) ∙ c.in-Some.is in
    let lane = c.index_mut-lane.result.now in
    let there = place_read c.args.lanes.now.items c.in-Some.place lane (place_below c.args.lanes.now.items (gram_at c.args.bytes.now) c.in-Some.place found) c.index_mut-lane.ensures.value in
    let left_is = ap (λ (x : Sending). record lane { sender = x }) c.on_ack.ensures.after in
    let le = acked_less lane c.in-Some-ack_in.n (g.L.Link.state c.args.link.now) c.args.base c.troubles-now.result false (sym c.if-on_ack.false ∙ c.on_ack.ensures.new) c.troubles-now.ensures in
    work_anew c.args.lanes.now.items c.in-Some.place lane (record lane { sender = c.on_ack.new.self }) (g.L.Link.state c.args.link.now) (g.L.Link.state c.args.link.now) c.args.base c.args.base _ there (omega (arith, le, ap (λ (l : Lane). stream_left l.sender) left_is))

pub returns-in-Ok-clause-runs : goal.returns-in-Ok-clause-runs
returns-in-Ok-clause-runs g c s count into comes =
    let found = sym (c.place_of.ensures ∙ ap (λ (xs : List Lane). place_of xs c.args.bytes.now) c.deref.ensures.value) ∙ c.in-Some.is in
    let lane = c.index_mut-lane.result.now in
    let there = place_read c.args.lanes.now.items c.in-Some.place lane (place_below c.args.lanes.now.items (gram_at c.args.bytes.now) c.in-Some.place found) c.index_mut-lane.ensures.value in
    let no_ack = sym (c.ack_in.ensures ∙ ap (λ r. ack_in r c.args.bytes.now) c.route.ensures) ∙ c.in-None.is in
    heard_at s c.args.lanes.now.items c.args.base count into (g.L.Link.state c.args.link.now) (g.L.Link.state c.receive.new.link) c.args.bytes.now (g.T.Take.taken c.args.take.now) (g.T.Take.taken c.receive.new.take) c.in-Some.place lane c.receive.new.lane None comes there (own_at c.args.lanes.now.items (gram_at c.args.bytes.now) c.in-Some.place lane found there)
    (λ t i n raw arrives. c.in-Ok.ensures.runs t i n raw arrives no_ack)

pub returns-in-Err-clause-runs : goal.returns-in-Err-clause-runs
returns-in-Err-clause-runs g c s count into comes =
    let found = sym (c.place_of.ensures ∙ ap (λ (xs : List Lane). place_of xs c.args.bytes.now) c.deref.ensures.value) ∙ c.in-Some.is in
    let lane = c.index_mut-lane.result.now in
    let there = place_read c.args.lanes.now.items c.in-Some.place lane (place_below c.args.lanes.now.items (gram_at c.args.bytes.now) c.in-Some.place found) c.index_mut-lane.ensures.value in
    let no_ack = sym (c.ack_in.ensures ∙ ap (λ r. ack_in r c.args.bytes.now) c.route.ensures) ∙ c.in-None.is in
    heard_at s c.args.lanes.now.items c.args.base count into (g.L.Link.state c.args.link.now) (g.L.Link.state c.receive.new.link) c.args.bytes.now (g.T.Take.taken c.args.take.now) (g.T.Take.taken c.receive.new.take) c.in-Some.place lane c.receive.new.lane (Some c.in-Err.fault) comes there (own_at c.args.lanes.now.items (gram_at c.args.bytes.now) c.in-Some.place lane found there)
    (λ t i n raw arrives. c.in-Err.ensures.runs t i n raw arrives no_ack)

pub returns-in-Ok-clause-less : goal.returns-in-Ok-clause-less
returns-in-Ok-clause-less g c =
    let found = sym (c.place_of.ensures ∙ ap (λ (xs : List Lane). place_of xs c.args.bytes.now) c.deref.ensures.value) ∙ c.in-Some.is in
    let lane = c.index_mut-lane.result.now in
    let there = place_read c.args.lanes.now.items c.in-Some.place lane (place_below c.args.lanes.now.items (gram_at c.args.bytes.now) c.in-Some.place found) c.index_mut-lane.ensures.value in
    work_anew c.args.lanes.now.items c.in-Some.place lane c.receive.new.lane (g.L.Link.state c.args.link.now) (g.L.Link.state c.receive.new.link) c.args.base c.args.base _ there (omega (arith, c.in-Ok.ensures.less c.args.base, ap stream_left c.receive.ensures.sender))
