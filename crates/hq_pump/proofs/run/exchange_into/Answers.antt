use Rattle.std.proofs.Common.{arith}
use Rattle.hq_pump.proofs.Start.{end_fronts}
use Rattle.hq_pump.proofs.Whole.{end_whole}
use Rattle.hq_pump.proofs.Ends.{end_own, end_causes}
use Rattle.hq_pump.proofs.Complete.{end_complete}
use Rattle.hq_pump.proofs.Given.{end_given}
use Rattle.hq_pump.proofs.Promises.{end_sound, end_rough}
use Rattle.hq_pump.proofs.Few.{end_few}
use Rattle.hq_pump.proofs.Steady.{end_steady}
use Rattle.hq_pump.proofs.run.exchange_into.Goals as goal

pub returns-clause-fronts : goal.returns-clause-fronts
returns-clause-fronts g c =
    end_fronts c.args.query c.args.motion c.args.to c.args.streams.items (g.L.Link.state c.args.link.now) (g.L.Link.state c.start.new.link) (g.L.Link.state c.args.link.now).troubles (g.T.Take.taken c.args.take.now) (g.T.Take.taken c.start.new.take) c.start.result
    (record { query = omega arith; motion = omega arith; to = c.requires.to_node }) c.requires.from_nodes c.requires.alone c.requires.earlier c.start.ensures.runs

pub returns-clause-whole : goal.returns-clause-whole
returns-clause-whole g c =
    end_whole c.args.query c.args.motion c.args.to c.args.streams.items (g.L.Link.state c.args.link.now) (g.L.Link.state c.start.new.link) (g.L.Link.state c.args.link.now).troubles (g.T.Take.taken c.args.take.now) (g.T.Take.taken c.start.new.take) c.start.result
    (record { query = omega arith; motion = omega arith; to = c.requires.to_node }) c.requires.from_nodes c.requires.alone c.requires.earlier c.start.ensures.runs

pub returns-clause-own : goal.returns-clause-own
returns-clause-own g c =
    end_own c.args.query c.args.motion c.args.to c.args.streams.items (g.L.Link.state c.args.link.now) (g.L.Link.state c.start.new.link) (g.L.Link.state c.args.link.now).troubles (g.T.Take.taken c.args.take.now) (g.T.Take.taken c.start.new.take) c.start.result
    (record { query = omega arith; motion = omega arith; to = c.requires.to_node }) c.requires.from_nodes c.requires.alone c.requires.earlier c.start.ensures.runs

pub returns-clause-cause : goal.returns-clause-cause
returns-clause-cause g c = end_causes _ (g.L.Link.state c.args.link.now) (g.L.Link.state c.start.new.link) (g.T.Take.taken c.args.take.now) (g.T.Take.taken c.start.new.take) c.start.result c.start.ensures.runs

pub returns-clause-given : goal.returns-clause-given
returns-clause-given g c =
    end_given c.args.query c.args.motion c.args.to c.args.streams.items (g.L.Link.state c.args.link.now) (g.L.Link.state c.start.new.link) (g.L.Link.state c.args.link.now).troubles (g.T.Take.taken c.args.take.now) (g.T.Take.taken c.start.new.take) c.start.result
    (record { query = omega arith; motion = omega arith; to = c.requires.to_node }) c.requires.from_nodes c.requires.alone c.requires.earlier c.start.ensures.runs

pub returns-clause-sound : goal.returns-clause-sound
returns-clause-sound g c on = end_sound _ (g.L.Link.state c.args.link.now) (g.L.Link.state c.start.new.link) (g.L.Link.state c.args.link.now).troubles (g.T.Take.taken c.args.take.now) (g.T.Take.taken c.start.new.take) c.start.result c.start.ensures.runs on

pub returns-clause-rough : goal.returns-clause-rough
returns-clause-rough g c = end_rough _ (g.L.Link.state c.args.link.now) (g.L.Link.state c.start.new.link) (g.L.Link.state c.args.link.now).troubles (g.T.Take.taken c.args.take.now) (g.T.Take.taken c.start.new.take) c.start.result c.start.ensures.runs

pub returns-clause-complete : goal.returns-clause-complete
returns-clause-complete g c promise few =
    end_complete c.args.query c.args.motion c.args.to c.args.streams.items (g.L.Link.state c.args.link.now) (g.L.Link.state c.start.new.link) (g.T.Take.taken c.args.take.now) (g.T.Take.taken c.start.new.take) c.start.result
    (record { query = omega arith; motion = omega arith; to = c.requires.to_node }) c.requires.from_nodes c.requires.alone c.requires.earlier c.start.ensures.runs c.start.ensures.short (g.met.L.Link.lawful c.args.link.now).told promise few

pub returns-clause-steady : goal.returns-clause-steady
returns-clause-steady g c promise =
    end_steady c.args.query c.args.motion c.args.to c.args.streams.items (g.L.Link.state c.args.link.now) (g.L.Link.state c.start.new.link) (g.T.Take.taken c.args.take.now) (g.T.Take.taken c.start.new.take) c.start.result
    (record { query = omega arith; motion = omega arith; to = c.requires.to_node }) c.requires.from_nodes c.requires.alone c.requires.earlier c.start.ensures.runs c.start.ensures.short (g.met.L.Link.lawful c.args.link.now).told promise

pub returns-clause-few : goal.returns-clause-few
returns-clause-few g c promise =
    end_few c.args.query c.args.motion c.args.to c.args.streams.items (g.L.Link.state c.args.link.now) (g.L.Link.state c.start.new.link) (g.T.Take.taken c.args.take.now) (g.T.Take.taken c.start.new.take) c.start.result
    (record { query = omega arith; motion = omega arith; to = c.requires.to_node }) c.requires.from_nodes c.requires.alone c.requires.earlier c.start.ensures.runs c.start.ensures.short (g.met.L.Link.lawful c.args.link.now).told promise
