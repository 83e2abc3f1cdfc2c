-- Each Scan of the plan that evaluates the select list on all nodes stands directly under exactly the guards of its source.
use Rattle.std.proofs.Common.{◌≡◌, ℕ, Bool, true, false, cond, List, [], ◌∷◌, ◌++◌, length, count_by, refl, sym, ◌∙◌, ap}
use Rattle.hq_value.specs.declared.kind.Kind.{Kind}
use Rattle.hq_algebra.specs.declared.expr.Expr.{Expr}
use Rattle.hq_algebra.specs.declared.op.Op.{Op}
use Rattle.hq_algebra.specs.declared.op.Op.TheVariants as op
use Rattle.hq_algebra.specs.declared.op.Op.TheBlock.{hidden-the_row-Op-0}
use Rattle.hq_algebra.specs.declared.plan.Motion.TheVariants as motion
use Rattle.hq_algebra.specs.declared.plan.Slice.{Slice}
use Rattle.hq_algebra.specs.declared.query.Query.{Query}
use denote.Hole.Carrier.{hidden}
use Rattle.hq_laws.specs.Stages.{filters, partial_op, final_aggregates, final_op, tail_op, sending}
use Rattle.hq_laws.specs.Sources.{Source}
use Rattle.hq_laws.specs.Guards.{with_guards, Guarded, guarded_scans, all_guarded, AreGuarded}
use Rattle.hq_laws.specs.Spread.{Joining, sources_of, Built, first_source, with_sources, closed}
use Rattle.hq_laws.proofs.Regroup.{flat_map-append}
use Rattle.hq_laws.proofs.Guarded.{spread-guards}
use Rattle.hq_listing.specs.Listing.{end_op, listed, listing_plan}
use Rattle.hq_listing.proofs.Means.{no-having}

module _ (q : Query) (plain : q.grouped ≡ false) where
  -- the last slices scan nothing
  end-none : (i : ℕ) (ks : List Kind) → guarded_scans [] (end_op q (op.Receive i ks)) ≡ []
  unfolding hidden-the_row-Op-0 hidden
  end-none i ks = by q.distinct
    where
      by : (b : Bool) → guarded_scans [] (cond b (op.Distinct (op.Receive i ks)) (op.Receive i ks)) ≡ []
      by true = refl
      by false = refl

  abbrev tail_scans : List Expr → Bool → ℕ → List Kind → List Guarded
  tail_scans having g i ks = guarded_scans [] (op.Sort q.order q.limit (cond q.distinct (op.Distinct (op.Project q.items (filters having (cond g (op.Final (length q.groups) (final_aggregates (length q.groups) q.aggregates) (op.Receive i ks)) (op.Receive i ks))))) (op.Project q.items (filters having (cond g (op.Final (length q.groups) (final_aggregates (length q.groups) q.aggregates) (op.Receive i ks)) (op.Receive i ks))))))

  tail-none : (i : ℕ) (ks : List Kind) → guarded_scans [] (tail_op q (final_op q (op.Receive i ks))) ≡ []
  unfolding hidden-the_row-Op-0 hidden
  tail-none i ks = (λ t. tail_scans (no-having q plain t) (plain t) i ks) ∙ by q.distinct
    where
      by : (b : Bool) → guarded_scans [] (cond b (op.Distinct (op.Project q.items (op.Receive i ks))) (op.Project q.items (op.Receive i ks))) ≡ []
      by true = refl
      by false = refl

  -- below the motion the select list stands where nothing does
  middle-same : (x : Op) → guarded_scans [] (op.Project q.items x) ≡ guarded_scans [] (partial_op q x)
  unfolding hidden-the_row-Op-0 hidden
  middle-same x = ap (λ b. guarded_scans [] (cond b (op.Partial q.groups q.aggregates x) x)) (sym plain)

  two-guarded : (b : Built) (x y : Op) → all_guarded (b.slices ++ sending motion.Gather x ∷ sending motion.Result y ∷ []) ≡ all_guarded b.slices ++ (guarded_scans [] x ++ (guarded_scans [] y ++ []))
  two-guarded b x y = flat_map-append (λ (s : Slice). guarded_scans [] s.root) b.slices (sending motion.Gather x ∷ sending motion.Result y ∷ [])

  same-guarded : (b : Built) (out : List Kind) → all_guarded (listed out q b).slices ≡ all_guarded (closed out q b).slices
  same-guarded b out =
      two-guarded b (op.Project q.items (filters q.conds b.root)) (end_op q (op.Receive (length b.slices) out))
      ∙ (λ i. all_guarded b.slices ++ (middle-same (filters q.conds b.root) i ++ ((end-none (length b.slices) out ∙ sym (tail-none (length b.slices) out)) i ++ [])))
      ∙ sym (two-guarded b (partial_op q (filters q.conds b.root)) (tail_op q (final_op q (op.Receive (length b.slices) out))))

  pub listing-guards : (kinds : ℕ → List Kind) (out : List Kind) (s : Source) (js : List Joining) → sources_of s js ≡ with_guards kinds q.conds 0 q.sources → AreGuarded kinds (listing_plan kinds out q s js).slices (with_guards kinds q.conds 0 q.sources)
  listing-guards kinds out s js e p = ap (count_by p) (same-guarded (with_sources kinds (first_source kinds s) js) out) ∙ spread-guards kinds out q s js e p
