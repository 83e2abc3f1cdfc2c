-- What the slice is given.
use Rattle.std.proofs.Common.{◌≡◌, List, [], ◌∷◌, sym, subst, arith}
use Rattle.hq_snap.specs.Snaps.{TableSnapState}
use Rattle.hq_exec.specs.Files.{held}
use Rattle.hq_exec.specs.Slices.{HasInputs}
use Rattle.hq_slicetests.proofs.Worked.{has_slice, has_inputs}
use Rattle.hq_slicetests.proofs.slices.run_bytes.Goals as goal

pub run_slice-requires : goal.run_slice-requires
run_slice-requires g c =
    let w = c.requires.plan.0 in
    let spelled = c.requires.plan.1 in
    let tables : c.from_ref-tables.result.now ≡ c.args.table.now ∷ [] = c.from_ref-tables.ensures.value in (
      omega arith,
      (
        has_slice w c.args.bytes.now spelled,
        (
          λ root of_it. subst (λ (t : List TableSnapState). HasInputs (held t [] c.args.buckets.now []) root) (sym tables)
              (has_inputs w c.args.bytes.now c.args.table.now c.args.buckets.now spelled c.requires.number c.requires.columns root of_it),
          (λ told. cc, λ told. cc),
        ),
      ),
    )
