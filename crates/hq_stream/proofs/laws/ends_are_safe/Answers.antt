use Rattle.std.proofs.Common.{◌≡◌, ℕ, suc, ◌≤◌, [], arith}
use Rattle.hq_stream.specs.Piece.{eos}
use Rattle.hq_stream.specs.TwoEnds.{run, start}
use Rattle.hq_stream.proofs.Taking.{whole_is}
use Rattle.hq_stream.proofs.Runs.{start_is, run_is}
use Rattle.hq_stream.proofs.laws.ends_are_safe.Goals as goal

pub returns-clause-safe : goal.returns-clause-safe
returns-clause-safe c stream events = run_is stream events (start stream) (start_is stream)

pub returns-clause-front : goal.returns-clause-front
returns-clause-front c stream events = (run_is stream events (start stream) (start_is stream)).receiver.front

pub returns-clause-whole : goal.returns-clause-whole
returns-clause-whole c stream events ended =
    let safe = run_is stream events (start stream) (start_is stream) in
    whole_is stream [] (run events (start stream)).receiver safe.receiver (omega (arith, safe.receiver.ended ended))

pub returns-clause-finished : goal.returns-clause-finished
returns-clause-finished c stream events finished =
    let safe = run_is stream events (start stream) (start_is stream) in
    whole_is stream [] (run events (start stream)).receiver safe.receiver (omega (arith, safe.acked, finished))
