use Rattle.std.proofs.Common.{◌≡◌, length, take, None, refl, arith}
use Rattle.std.proofs.lemmas.Result.{err_from_is_err_and}
use Rattle.hq_block.specs.declared.fault.BlockFault.TheVariants as fault
use Rattle.hq_block.specs.Fault.{block_fault}
use Rattle.hq_block.specs.Reading.{head_bounds_at}
use Rattle.hq_block.proofs.BlockLaws.{no_block_read}
use Rattle.hq_block.proofs.Heads.{head_read, no_head, rules_of}
use Rattle.hq_block.proofs.Said.{bounds_say, bounds_refused, too_wide}
use Rattle.hq_block.proofs.head.read_head.Goals as goal

pub returns-in_default-clause-not_a_block : goal.returns-in_default-clause-not_a_block
returns-in_default-clause-not_a_block c = λ e head is. no_head c.args.bytes.now c.in_default.ensures (length c.args.bytes.now) c.requires

pub returns-then-kinds-columns-clause-not_a_block : goal.returns-then-kinds-columns-clause-not_a_block
returns-then-kinds-columns-clause-not_a_block c = λ e head is.
    let found = head_read c.args.bytes.now c.in-Some.head c.in-Some.rest.now (λ i. omega (arith, c.type_inv.bytes i)) c.in-Some.ensures in
    let wide = rw c.as_slice-kinds.ensures at c.if-kinds-columns.true in
    too_wide c.args.kinds.now c.in-Some.head c.args.bytes.now found.0 wide head is

pub returns-in_err-bounds-clause-not_a_block : goal.returns-in_err-bounds-clause-not_a_block
returns-in_err-bounds-clause-not_a_block c = λ e head is.
    let found = head_read c.args.bytes.now c.in-Some.head c.in-Some.rest.now (λ i. omega (arith, c.type_inv.bytes i)) c.in-Some.ensures in
    let p = err_from_is_err_and c.from_residual.result c.from_residual.ensures.1 in
    let same : block_fault c.in_err-bounds.field-0.0 ≡ fault.NotABlock = cc (p.1, p.2, e) in
    let fails = rw c.as_slice-kinds.ensures at c.in_err-bounds.ensures in
    let none : head_bounds_at c.in-Some.head.version (take c.in-Some.head.columns c.args.kinds.now) c.in-Some.rest.now ≡ None = no_block_read c.in_err-bounds.field-0.0 (head_bounds_at c.in-Some.head.version (take c.in-Some.head.columns c.args.kinds.now) c.in-Some.rest.now) same fails in
    bounds_refused c.args.kinds.now c.in-Some.head c.args.bytes.now c.in-Some.rest.now found.0 found.1 none head is

pub overflow_add-result : goal.overflow_add-result
overflow_add-result c =
    let found = head_read c.args.bytes.now c.in-Some.head c.in-Some.rest.now (λ i. omega (arith, c.type_inv.bytes i)) c.in-Some.ensures in
    let rules = rules_of c.in-Some.head found.0.rules in
    omega (arith, rules.short)

pub returns-clause-found : goal.returns-clause-found
returns-clause-found c =
    let found = head_read c.args.bytes.now c.in-Some.head c.in-Some.rest.now (λ i. omega (arith, c.type_inv.bytes i)) c.in-Some.ensures in
    let enough = rw c.as_slice-kinds.ensures at c.if-kinds-columns.false in
    let read = rw c.as_slice-kinds.ensures at c.in_ok-bounds.ensures in
    record {
      head = c.in-Some.head;
      is = found.0;
      columns = refl;
      within = enough;
      length_is = refl;
      bounds = bounds_say c.in-Some.head.version (take c.in-Some.head.columns c.args.kinds.now) c.in_ok-bounds.bounds c.args.bytes.now c.in-Some.rest.now (λ i. omega (arith, c.type_inv.bytes i)) found.1 read;
    }
