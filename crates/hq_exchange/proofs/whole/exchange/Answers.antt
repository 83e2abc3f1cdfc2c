use Rattle.std.proofs.Common.{◌≡◌, ℕ, List, Vec, Global, map, sym, ap, ◌∙◌}
use Rattle.hq_exchange.specs.Lists.{bytes_at}
use Rattle.hq_exchange.proofs.Given.{apart, given_known, senders_seen}
use Rattle.hq_pump.specs.Seen.{seen}
use Rattle.hq_exchange.proofs.Ran.{given_ran, listless_ran, ended_ran}
use Rattle.hq_exchange.proofs.whole.exchange.Goals as goal

pub into_streams-requires : goal.into_streams-requires
into_streams-requires g c = record {
  apart = apart c.args.streams.items c.deref-in-Ok-exchange_into.result.now
      (c.deref-in-Ok-exchange_into.ensures.value ∙ c.in-Ok.ensures ∙ ap (map (λ (stream : ℕ × Vec ℕ Global). stream.0)) c.deref.ensures.value)
      c.requires.alone;
}

pub returns-in-Ok-into_streams-clause-whole : goal.returns-in-Ok-into_streams-clause-whole
returns-in-Ok-into_streams-clause-whole g c =
    given_known (g.L.Link.state c.exchange_into.new.link).may c.args.streams.items c.in-Ok-into_streams.got.items c.deref-in-Ok-exchange_into.result.now
    (bytes_at c.new-lists.result.lists.items) (bytes_at c.exchange_into.new.take.lists.items) c.new-lists.ensures
    (c.deref-in-Ok-exchange_into.ensures.value ∙ c.in-Ok.ensures ∙ ap (map (λ (stream : ℕ × Vec ℕ Global). stream.0)) c.deref.ensures.value)
    c.in-Ok-into_streams.ensures c.in-Ok-exchange_into.ensures.whole

pub returns-in-Ok-into_streams-clause-runs : goal.returns-in-Ok-into_streams-clause-runs
returns-in-Ok-into_streams-clause-runs g c =
    given_ran c.args.query c.args.motion c.args.to (seen c.args.streams.items) (g.L.Link.state c.args.link.now) (g.L.Link.state c.exchange_into.new.link) (bytes_at c.new-lists.result.lists.items) (bytes_at c.exchange_into.new.take.lists.items) c.in-Ok-into_streams.got c.deref-in-Ok-exchange_into.result.now c.new-lists.ensures
    (c.deref-in-Ok-exchange_into.ensures.value ∙ c.in-Ok.ensures ∙ ap (map (λ (stream : ℕ × Vec ℕ Global). stream.0)) c.deref.ensures.value ∙ sym (senders_seen c.args.streams.items))
    c.in-Ok-into_streams.ensures c.in-Ok-exchange_into.ensures.runs

pub returns-in-Ok-exchange_into-clause-runs : goal.returns-in-Ok-exchange_into-clause-runs
returns-in-Ok-exchange_into-clause-runs g c =
    listless_ran c.args.query c.args.motion c.args.to (seen c.args.streams.items) (g.L.Link.state c.args.link.now) (g.L.Link.state c.exchange_into.new.link) (bytes_at c.new-lists.result.lists.items) (bytes_at c.exchange_into.new.take.lists.items) c.new-lists.ensures c.in-Ok-exchange_into.ensures.runs

pub returns-clause-runs : goal.returns-clause-runs
returns-clause-runs g c =
    ended_ran Global Global c.args.query c.args.motion c.args.to (seen c.args.streams.items) (g.L.Link.state c.args.link.now) (g.L.Link.state c.exchange_into.new.link) (bytes_at c.new-lists.result.lists.items) (bytes_at c.exchange_into.new.take.lists.items) c.in-Err.end c.new-lists.ensures c.in-Err.ensures.runs
