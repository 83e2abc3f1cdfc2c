-- The tasks stand in the order of the benches and of the parts.
use Rattle.std.proofs.Common.{◌≡◌, ◌∙◌, ◌<◌, List, ℕ, ◌++◌, map, length, Ok, arith, subst, sym, ap, slice_index_or}
use Rattle.std.proofs.lemmas.Result.{on_ok_weaker}
use Rattle.hq_value.specs.Causes.{Rose, IsSteady, GoesOn}
use Rattle.hq_lane.specs.Lanes.{PartState, part_at}
use Rattle.hq_txn.specs.InUse.{HasAnswered}
use Rattle.hq_txn.specs.Shares.{share_in}
use Rattle.hq_txn.specs.Parts.{IsUsed, IsWholePart, HasSameHead, WritesPart, BeginsPart}
use Rattle.hq_txn.proofs.Tasking.{placed, Moved, bench-moved, part-is, parts-moved, all-moved, same-head, same-heads, begins-none, no-fault, no-store-fault, answered-up-to}
use Rattle.hq_txn.proofs.tasks.write_parts.Goals as goal

pub returns-in_default-clause-begun : goal.returns-in_default-clause-begun
returns-in_default-clause-begun g c = subst (λ (after : List PartState). (n : ℕ) → BeginsPart g.F.StoredFile.tells c.args.kinds.now (share_in c.args.shares.now) (part_at c.args.parts.now.items n) (part_at after n)) (sym c.in_default.ensures.same_parts)
    (λ n. begins-none g.F.StoredFile.tells c.args.kinds.now (share_in c.args.shares.now) (part_at c.args.parts.now.items n))

pub run_all-requires-clause-whole : goal.run_all-requires-clause-whole
run_all-requires-clause-whole g c κs within = λ n d h.
    let count = c.in-Ok.ensures.len in
    let left = c.in-Ok.ensures.left in
    subst IsWholePart (placed (λ t. t.part.value) c.in-Ok.tasks.items c.tasks_of.new.parts.items c.args.parts.now.items n d c.in-Ok.ensures.parts (omega (arith, h))) (c.requires.whole n (omega (arith, h, left)))

pub returns-clause-heads : goal.returns-clause-heads
returns-clause-heads g c =
    let count = c.in-Ok.ensures.len in
    let left = c.in-Ok.ensures.left in
    let xs = c.in-Ok.tasks.items in
    let ys = c.run_all.new.tasks.items in
    let before = c.args.parts.now.items in
    let after = c.from_tasks.new.parts.items in
    let old = c.args.benches.now.items in
    let new = c.from_tasks.new.benches.items in
    let moved : Moved (λ t. t.bench) (λ t. t.part.value) xs ys before after old new = record {
      rest = c.tasks_of.new.parts.items;
      many = omega (arith, count, left);
      parts_are = c.in-Ok.ensures.parts;
      parts_now = c.from_tasks.ensures.parts;
      benches_are = c.in-Ok.ensures.benches;
      benches_now = c.from_tasks.ensures.benches ∙ ap (λ l. map (λ t. t.bench) ys ++ l) c.in-Ok.ensures.no_benches;
    } in
    same-heads before after (omega (arith, count, left)) (all-moved (λ t. t.bench) (λ t. t.part.value) xs ys before after old new moved HasSameHead same-head (λ n within d. (c.run_all.ensures.ran n d (omega (arith, count, left, within))).head))

pub returns-clause-begun : goal.returns-clause-begun
returns-clause-begun g c =
    let count = c.in-Ok.ensures.len in
    let left = c.in-Ok.ensures.left in
    let xs = c.in-Ok.tasks.items in
    let ys = c.run_all.new.tasks.items in
    let before = c.args.parts.now.items in
    let after = c.from_tasks.new.parts.items in
    let old = c.args.benches.now.items in
    let new = c.from_tasks.new.benches.items in
    let moved : Moved (λ t. t.bench) (λ t. t.part.value) xs ys before after old new = record {
      rest = c.tasks_of.new.parts.items;
      many = omega (arith, count, left);
      parts_are = c.in-Ok.ensures.parts;
      parts_now = c.from_tasks.ensures.parts;
      benches_are = c.in-Ok.ensures.benches;
      benches_now = c.from_tasks.ensures.benches ∙ ap (λ l. map (λ t. t.bench) ys ++ l) c.in-Ok.ensures.no_benches;
    } in
    all-moved (λ t. t.bench) (λ t. t.part.value) xs ys before after old new moved (BeginsPart g.F.StoredFile.tells c.args.kinds.now (share_in c.args.shares.now)) (begins-none g.F.StoredFile.tells c.args.kinds.now (share_in c.args.shares.now)) (λ n within d. (c.run_all.ensures.ran n d (omega (arith, count, left, within))).begun)

pub returns-clause-written : goal.returns-clause-written
returns-clause-written g c =
    let count = c.in-Ok.ensures.len in
    let left = c.in-Ok.ensures.left in
    let xs = c.in-Ok.tasks.items in
    let ys = c.run_all.new.tasks.items in
    let before = c.args.parts.now.items in
    let after = c.from_tasks.new.parts.items in
    let old = c.args.benches.now.items in
    let new = c.from_tasks.new.benches.items in
    let moved : Moved (λ t. t.bench) (λ t. t.part.value) xs ys before after old new = record {
      rest = c.tasks_of.new.parts.items;
      many = omega (arith, count, left);
      parts_are = c.in-Ok.ensures.parts;
      parts_now = c.from_tasks.ensures.parts;
      benches_are = c.in-Ok.ensures.benches;
      benches_now = c.from_tasks.ensures.benches ∙ ap (λ l. map (λ t. t.bench) ys ++ l) c.in-Ok.ensures.no_benches;
    } in
    on_ok_weaker c.first_fault-end.result
    (λ (fine : (n : ℕ) (d : _) → n < length ys → (slice_index_or ys n d).outcome ≡ Ok tt) n within.
    parts-moved (λ t. t.bench) (λ t. t.part.value) xs ys before after old new moved (WritesPart g.F.StoredFile.tells c.args.kinds.now (share_in c.args.shares.now)) n (omega (arith, count, left))
    (λ d. rw (fine n d (omega (arith, count, left))) at ((c.run_all.ensures.ran n d (omega (arith, count, left))).written)))
    (rw c.as_slice.ensures.value at c.first_fault-end.ensures.none)

pub returns-clause-links : goal.returns-clause-links
returns-clause-links g c =
    let count = c.in-Ok.ensures.len in
    let left = c.in-Ok.ensures.left in
    let xs = c.in-Ok.tasks.items in
    let ys = c.run_all.new.tasks.items in
    let before = c.args.parts.now.items in
    let after = c.from_tasks.new.parts.items in
    let old = c.args.benches.now.items in
    let new = c.from_tasks.new.benches.items in
    let moved : Moved (λ t. t.bench) (λ t. t.part.value) xs ys before after old new = record {
      rest = c.tasks_of.new.parts.items;
      many = omega (arith, count, left);
      parts_are = c.in-Ok.ensures.parts;
      parts_now = c.from_tasks.ensures.parts;
      benches_are = c.in-Ok.ensures.benches;
      benches_now = c.from_tasks.ensures.benches ∙ ap (λ l. map (λ t. t.bench) ys ++ l) c.in-Ok.ensures.no_benches;
    } in
    λ n within. bench-moved (λ t. t.bench) (λ t. t.part.value) xs ys before after old new moved (λ _ a b. b.link ≡ a.link) n (omega (arith, count, left)) (λ d. (c.run_all.ensures.ran n d (omega (arith, count, left))).link)

pub returns-clause-hosts : goal.returns-clause-hosts
returns-clause-hosts g c =
    let count = c.in-Ok.ensures.len in
    let left = c.in-Ok.ensures.left in
    let xs = c.in-Ok.tasks.items in
    let ys = c.run_all.new.tasks.items in
    let before = c.args.parts.now.items in
    let after = c.from_tasks.new.parts.items in
    let old = c.args.benches.now.items in
    let new = c.from_tasks.new.benches.items in
    let moved : Moved (λ t. t.bench) (λ t. t.part.value) xs ys before after old new = record {
      rest = c.tasks_of.new.parts.items;
      many = omega (arith, count, left);
      parts_are = c.in-Ok.ensures.parts;
      parts_now = c.from_tasks.ensures.parts;
      benches_are = c.in-Ok.ensures.benches;
      benches_now = c.from_tasks.ensures.benches ∙ ap (λ l. map (λ t. t.bench) ys ++ l) c.in-Ok.ensures.no_benches;
    } in
    λ n within. bench-moved (λ t. t.bench) (λ t. t.part.value) xs ys before after old new moved (λ _ a b. IsSteady g.H.Host.faults g.H.Host.sound a.host b.host) n (omega (arith, count, left)) (λ d. (c.run_all.ensures.ran n d (omega (arith, count, left))).host)

pub returns-clause-stores : goal.returns-clause-stores
returns-clause-stores g c =
    let count = c.in-Ok.ensures.len in
    let left = c.in-Ok.ensures.left in
    let xs = c.in-Ok.tasks.items in
    let ys = c.run_all.new.tasks.items in
    let before = c.args.parts.now.items in
    let after = c.from_tasks.new.parts.items in
    let old = c.args.benches.now.items in
    let new = c.from_tasks.new.benches.items in
    let moved : Moved (λ t. t.bench) (λ t. t.part.value) xs ys before after old new = record {
      rest = c.tasks_of.new.parts.items;
      many = omega (arith, count, left);
      parts_are = c.in-Ok.ensures.parts;
      parts_now = c.from_tasks.ensures.parts;
      benches_are = c.in-Ok.ensures.benches;
      benches_now = c.from_tasks.ensures.benches ∙ ap (λ l. map (λ t. t.bench) ys ++ l) c.in-Ok.ensures.no_benches;
    } in
    λ n within. bench-moved (λ t. t.bench) (λ t. t.part.value) xs ys before after old new moved (λ _ a b. GoesOn g.S.Store.faults g.S.Store.given g.S.Store.sound a.store b.store) n (omega (arith, count, left)) (λ d. (c.run_all.ensures.ran n d (omega (arith, count, left))).store)

pub returns-clause-unused : goal.returns-clause-unused
returns-clause-unused g c =
    let count = c.in-Ok.ensures.len in
    let left = c.in-Ok.ensures.left in
    let xs = c.in-Ok.tasks.items in
    let ys = c.run_all.new.tasks.items in
    let before = c.args.parts.now.items in
    let after = c.from_tasks.new.parts.items in
    let old = c.args.benches.now.items in
    let new = c.from_tasks.new.benches.items in
    let moved : Moved (λ t. t.bench) (λ t. t.part.value) xs ys before after old new = record {
      rest = c.tasks_of.new.parts.items;
      many = omega (arith, count, left);
      parts_are = c.in-Ok.ensures.parts;
      parts_now = c.from_tasks.ensures.parts;
      benches_are = c.in-Ok.ensures.benches;
      benches_now = c.from_tasks.ensures.benches ∙ ap (λ l. map (λ t. t.bench) ys ++ l) c.in-Ok.ensures.no_benches;
    } in
    λ n within none d. bench-moved (λ t. t.bench) (λ t. t.part.value) xs ys before after old new moved (λ p a b. (IsUsed p → ⊥) → b ≡ a) n (omega (arith, count, left)) (λ e. (c.run_all.ensures.ran n e (omega (arith, count, left))).unused) d none

pub returns-clause-answered : goal.returns-clause-answered
returns-clause-answered g c =
    let count = c.in-Ok.ensures.len in
    let left = c.in-Ok.ensures.left in
    let xs = c.in-Ok.tasks.items in
    let ys = c.run_all.new.tasks.items in
    let before = c.args.parts.now.items in
    let after = c.from_tasks.new.parts.items in
    let old = c.args.benches.now.items in
    let new = c.from_tasks.new.benches.items in
    let moved : Moved (λ t. t.bench) (λ t. t.part.value) xs ys before after old new = record {
      rest = c.tasks_of.new.parts.items;
      many = omega (arith, count, left);
      parts_are = c.in-Ok.ensures.parts;
      parts_now = c.from_tasks.ensures.parts;
      benches_are = c.in-Ok.ensures.benches;
      benches_now = c.from_tasks.ensures.benches ∙ ap (λ l. map (λ t. t.bench) ys ++ l) c.in-Ok.ensures.no_benches;
    } in
    on_ok_weaker c.first_fault-end.result
    (λ (fine : (n : ℕ) (d : _) → n < length ys → (slice_index_or ys n d).outcome ≡ Ok tt) n within used d.
    bench-moved (λ t. t.bench) (λ t. t.part.value) xs ys before after old new moved (λ p a b. IsUsed p → HasAnswered g.H.Host.checks g.H.Host.faults a.host b.host) n (omega (arith, count, left))
    (λ e. rw (fine n e (omega (arith, count, left))) at ((c.run_all.ensures.ran n e (omega (arith, count, left))).answered)) d used)
    (rw c.as_slice.ensures.value at c.first_fault-end.ensures.none)

pub returns-clause-no_memory : goal.returns-clause-no_memory
returns-clause-no_memory g c =
    let count = c.in-Ok.ensures.len in
    let left = c.in-Ok.ensures.left in
    let xs = c.in-Ok.tasks.items in
    let ys = c.run_all.new.tasks.items in
    let before = c.args.parts.now.items in
    let after = c.from_tasks.new.parts.items in
    let old = c.args.benches.now.items in
    let new = c.from_tasks.new.benches.items in
    let moved : Moved (λ t. t.bench) (λ t. t.part.value) xs ys before after old new = record {
      rest = c.tasks_of.new.parts.items;
      many = omega (arith, count, left);
      parts_are = c.in-Ok.ensures.parts;
      parts_now = c.from_tasks.ensures.parts;
      benches_are = c.in-Ok.ensures.benches;
      benches_now = c.from_tasks.ensures.benches ∙ ap (λ l. map (λ t. t.bench) ys ++ l) c.in-Ok.ensures.no_benches;
    } in
    λ err.
    let fine = rw c.as_slice.ensures.value at (c.first_fault-end.ensures.no_memory err) in
    λ n within. bench-moved (λ t. t.bench) (λ t. t.part.value) xs ys before after old new moved (λ _ a b. g.H.Host.faults b.host ≡ g.H.Host.faults a.host) n (omega (arith, count, left))
    (λ d. no-fault (slice_index_or ys n d).outcome (g.H.Host.faults (slice_index_or ys n d).bench.host ≡ g.H.Host.faults (slice_index_or xs n d).bench.host) (fine n d (omega (arith, count, left))) ((c.run_all.ensures.ran n d (omega (arith, count, left))).held))

pub returns-clause-host_cause : goal.returns-clause-host_cause
returns-clause-host_cause g c =
    let count = c.in-Ok.ensures.len in
    let left = c.in-Ok.ensures.left in
    let xs = c.in-Ok.tasks.items in
    let ys = c.run_all.new.tasks.items in
    let before = c.args.parts.now.items in
    let after = c.from_tasks.new.parts.items in
    let old = c.args.benches.now.items in
    let new = c.from_tasks.new.benches.items in
    let moved : Moved (λ t. t.bench) (λ t. t.part.value) xs ys before after old new = record {
      rest = c.tasks_of.new.parts.items;
      many = omega (arith, count, left);
      parts_are = c.in-Ok.ensures.parts;
      parts_now = c.from_tasks.ensures.parts;
      benches_are = c.in-Ok.ensures.benches;
      benches_now = c.from_tasks.ensures.benches ∙ ap (λ l. map (λ t. t.bench) ys ++ l) c.in-Ok.ensures.no_benches;
    } in
    λ n err.
    let found = rw c.as_slice.ensures.value at (c.first_fault-end.ensures.host n err) in
    let there : n < length xs = omega (arith, count, left, found.0) in
    record {
      within = omega (arith, count, left, there);
      is_used = part-is (λ t. t.bench) (λ t. t.part.value) xs ys before after old new moved IsUsed n there (λ d. (c.run_all.ensures.ran n d (omega (arith, count, left, there))).host_used (found.1 d));
      count_rose = bench-moved (λ t. t.bench) (λ t. t.part.value) xs ys before after old new moved (λ _ a b. Rose (g.H.Host.faults a.host) (g.H.Host.faults b.host)) n there (λ d. (c.run_all.ensures.ran n d (omega (arith, count, left, there))).host_rose (found.1 d));
      lowest = λ k less used d. bench-moved (λ t. t.bench) (λ t. t.part.value) xs ys before after old new moved (λ p a b. IsUsed p → HasAnswered g.H.Host.checks g.H.Host.faults a.host b.host) k (omega (arith, count, left, less, there)) (λ e. no-fault (slice_index_or ys k e).outcome (IsUsed (slice_index_or xs k e).part.value → HasAnswered g.H.Host.checks g.H.Host.faults (slice_index_or xs k e).bench.host (slice_index_or ys k e).bench.host) (found.2 k e (omega (arith, count, left, less))) ((c.run_all.ensures.ran k e (omega (arith, count, left, less, there))).answered)) d used;
    }

pub returns-clause-store_cause : goal.returns-clause-store_cause
returns-clause-store_cause g c =
    let count = c.in-Ok.ensures.len in
    let left = c.in-Ok.ensures.left in
    let xs = c.in-Ok.tasks.items in
    let ys = c.run_all.new.tasks.items in
    let before = c.args.parts.now.items in
    let after = c.from_tasks.new.parts.items in
    let old = c.args.benches.now.items in
    let new = c.from_tasks.new.benches.items in
    let moved : Moved (λ t. t.bench) (λ t. t.part.value) xs ys before after old new = record {
      rest = c.tasks_of.new.parts.items;
      many = omega (arith, count, left);
      parts_are = c.in-Ok.ensures.parts;
      parts_now = c.from_tasks.ensures.parts;
      benches_are = c.in-Ok.ensures.benches;
      benches_now = c.from_tasks.ensures.benches ∙ ap (λ l. map (λ t. t.bench) ys ++ l) c.in-Ok.ensures.no_benches;
    } in
    λ err.
    let found = rw c.as_slice.ensures.value at (c.first_fault-end.ensures.store err) in
    let n : ℕ = found.0 in
    let there : n < length xs = omega (arith, count, left, found.1) in
    record {
      node = n;
      within = omega (arith, count, left, there);
      is_used = part-is (λ t. t.bench) (λ t. t.part.value) xs ys before after old new moved IsUsed n there (λ d. (c.run_all.ensures.ran n d (omega (arith, count, left, there))).store_used (found.2 d));
      count_rose = bench-moved (λ t. t.bench) (λ t. t.part.value) xs ys before after old new moved (λ _ a b. Rose (g.S.Store.faults a.store) (g.S.Store.faults b.store)) n there (λ d. (c.run_all.ensures.ran n d (omega (arith, count, left, there))).store_rose (found.2 d));
      lowest = λ k less used d. bench-moved (λ t. t.bench) (λ t. t.part.value) xs ys before after old new moved (λ p a b. IsUsed p → HasAnswered g.H.Host.checks g.H.Host.faults a.host b.host) k (omega (arith, count, left, less, there)) (λ e. answered-up-to (λ m. (slice_index_or ys m e).outcome) (λ m. IsUsed (slice_index_or xs m e).part.value → HasAnswered g.H.Host.checks g.H.Host.faults (slice_index_or xs m e).bench.host (slice_index_or ys m e).bench.host) n (found.2 e) (λ m below. found.3 m e below) k (omega (arith, count, left, less)) ((c.run_all.ensures.ran k e (omega (arith, count, left, less, there))).answered)) d used;
    }

pub returns-in_default-clause-whole : goal.returns-in_default-clause-whole
returns-in_default-clause-whole g c = λ err n within. subst (λ (after : List PartState). IsWholePart (part_at after n)) (sym c.in_default.ensures.same_parts) (c.requires.whole n (omega (arith, within)))

pub returns-clause-whole : goal.returns-clause-whole
returns-clause-whole g c =
    let count = c.in-Ok.ensures.len in
    let left = c.in-Ok.ensures.left in
    let xs = c.in-Ok.tasks.items in
    let ys = c.run_all.new.tasks.items in
    let before = c.args.parts.now.items in
    let after = c.from_tasks.new.parts.items in
    let old = c.args.benches.now.items in
    let new = c.from_tasks.new.benches.items in
    let moved : Moved (λ t. t.bench) (λ t. t.part.value) xs ys before after old new = record {
      rest = c.tasks_of.new.parts.items;
      many = omega (arith, count, left);
      parts_are = c.in-Ok.ensures.parts;
      parts_now = c.from_tasks.ensures.parts;
      benches_are = c.in-Ok.ensures.benches;
      benches_now = c.from_tasks.ensures.benches ∙ ap (λ l. map (λ t. t.bench) ys ++ l) c.in-Ok.ensures.no_benches;
    } in
    λ err.
    let fine = rw c.as_slice.ensures.value at (c.first_fault-end.ensures.no_memory err) in
    λ n within. parts-moved (λ t. t.bench) (λ t. t.part.value) xs ys before after old new moved (λ _ p. IsWholePart p) n (omega (arith, count, left, within))
    (λ d. no-store-fault (slice_index_or ys n d).outcome (IsWholePart (slice_index_or ys n d).part.value) (fine n d (omega (arith, count, left, within))) ((c.run_all.ensures.ran n d (omega (arith, count, left, within))).whole))

pub returns-clause-whole_before : goal.returns-clause-whole_before
returns-clause-whole_before g c =
    let count = c.in-Ok.ensures.len in
    let left = c.in-Ok.ensures.left in
    let xs = c.in-Ok.tasks.items in
    let ys = c.run_all.new.tasks.items in
    let before = c.args.parts.now.items in
    let after = c.from_tasks.new.parts.items in
    let old = c.args.benches.now.items in
    let new = c.from_tasks.new.benches.items in
    let moved : Moved (λ t. t.bench) (λ t. t.part.value) xs ys before after old new = record {
      rest = c.tasks_of.new.parts.items;
      many = omega (arith, count, left);
      parts_are = c.in-Ok.ensures.parts;
      parts_now = c.from_tasks.ensures.parts;
      benches_are = c.in-Ok.ensures.benches;
      benches_now = c.from_tasks.ensures.benches ∙ ap (λ l. map (λ t. t.bench) ys ++ l) c.in-Ok.ensures.no_benches;
    } in
    λ n err.
    let found = rw c.as_slice.ensures.value at (c.first_fault-end.ensures.host n err) in
    λ k less. parts-moved (λ t. t.bench) (λ t. t.part.value) xs ys before after old new moved (λ _ p. IsWholePart p) k (omega (arith, count, left, less, found.0))
    (λ d. no-store-fault (slice_index_or ys k d).outcome (IsWholePart (slice_index_or ys k d).part.value) (found.2 k d less) ((c.run_all.ensures.ran k d (omega (arith, count, left, less, found.0))).whole))
