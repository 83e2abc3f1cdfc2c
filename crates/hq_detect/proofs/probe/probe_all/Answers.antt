use Rattle.std.proofs.Common.{◌≡◌, ◌∙◌, ◌+◌, ◌*◌, ◌^◌, ◌<◌, length, get_or, ap, arith, cond, sym, suc, refl}
use Rattle.std.proofs.Math.Nat.{pow-suc}
use Rattle.hq_detect.proofs.Probing.{front-next, same-there, above}
use Rattle.hq_detect.proofs.probe.probe_all.Goals as goal

pub loop-node-init : goal.loop-node-init
loop-node-init g c = record {
  front = record { count = refl; small = omega arith; done = λ n none h. absurd (omega (arith, h)); rest = λ n none h. refl };
  weight = refl;
}

pub loop-node-preserved : goal.loop-node-preserved
loop-node-preserved g c =
    let within : c.loop-node.node < length c.loop-node.benches = omega (arith, c.loop-node.invariant.front.count) in
    let old = get_or c.loop-node.benches c.loop-node.node c.index-benches-node.result in
    record {
      front = front-next g.H.Host.checks g.H.Host.faults g.H.Host.sound c.args.benches.now c.loop-node.benches c.loop-node.node c.loop-node.found _ old c.probe.new.bench c.probe.result c.loop-node.invariant.front
          within (same-there c.loop-node.benches c.loop-node.node c.index-benches-node.result old within) c.probe.ensures
          (ap (λ k. c.loop-node.found + k) (c.if_found-found.ensures ∙ ap (λ k. cond c.probe.result k 0) c.loop-node.invariant.weight));
      weight = ap (λ k. k * 2) c.loop-node.invariant.weight ∙ sym (let s : c.loop-node.node + 1 ≡ suc c.loop-node.node = omega arith in ap (λ k. 2 ^ k) s ∙ pow-suc 2 c.loop-node.node);
    }

pub returns-clause-others : goal.returns-clause-others
returns-clause-others g c n le = above c.loop-node.found c.loop-node.node n c.loop-node.invariant.front.small (omega (arith, le))
