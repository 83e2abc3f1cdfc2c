-- The worked queries are bound over their tables.
use Rattle.std.proofs.Common.{◌≡◌, ℕ, zero, suc, List, [], ◌∷◌, true, refl, sym, ◌∙◌, subst, arith}
use Rattle.hq_value.specs.declared.kind.Kind.{Kind}
use Rattle.hq_value.specs.declared.kind.Kind.TheVariants as kind
use Rattle.hq_value.specs.declared.table.Column.{Column}
use Rattle.hq_value.specs.Kinds.{kinds_of}
use Rattle.hq_value.specs.Tables.{Definition, IsDefinition}
use Rattle.hq_algebra.specs.declared.expr.Expr.TheBlock.{hidden-the_row-Expr-0}
use denote.Hole.Carrier.{hidden}
use Rattle.hq_whole.specs.Tables.{Defs, kinds_by}
use Rattle.hq_executiontests.specs.declared.queries.Parts.{Parts}
use Rattle.hq_executiontests.specs.Rules.{KeepsRules, fits}
use Rattle.hq_executiontests.specs.Worked.{AreWorked, met, met_by_keys, few_met, in_city, chained, sold}

pub worked_tables : (defs : Defs) (u v shop sale : Definition) → defs ≡ (0, u) ∷ (1, v) ∷ (2, shop) ∷ (3, sale) ∷ []
    → kinds_of u.columns ≡ kind.Int ∷ kind.Int ∷ [] → kinds_of v.columns ≡ kind.Int ∷ kind.Int ∷ [] → kinds_of shop.columns ≡ kind.Int ∷ kind.Text ∷ [] → kinds_of sale.columns ≡ kind.Int ∷ kind.Int ∷ kind.Int ∷ []
    → AreWorked (kinds_by defs)
worked_tables defs u v shop sale e eu ev es ex = record {
  u = (λ i. kinds_by (e i) 0) ∙ eu;
  v = (λ i. kinds_by (e i) 1) ∙ ev;
  shop = (λ i. kinds_by (e i) 2) ∙ es;
  sale = (λ i. kinds_by (e i) 3) ∙ ex;
}

-- the kinds of tables 0 to 3
four : List Kind → List Kind → List Kind → List Kind → ℕ → List Kind
four a b c d zero = a
four a b c d (suc zero) = b
four a b c d (suc (suc zero)) = c
four a b c d (suc (suc (suc n))) = d

met_rules : KeepsRules met
unfolding hidden-the_row-Expr-0 hidden
met_rules = record {
  some_sources = omega arith;
  few_sources = omega arith;
  some_items = omega arith;
  few_items = omega arith;
  conds_fault_never = refl;
  having_faults_never = refl;
  small = refl;
  plain = refl;
  counts_of_one = refl;
  group_columns = refl;
  order_columns = refl;
}

pub met_keeps : (p : Parts) → p ≡ met → KeepsRules p
met_keeps p e = subst KeepsRules (sym e) met_rules

met_bound : (kinds : ℕ → List Kind) → AreWorked kinds → fits kinds met ≡ true
unfolding four hidden-the_row-Expr-0 hidden
met_bound kinds w = (λ i. fits (four (w.u i) (w.v i) (w.shop i) (w.sale i)) met) ∙ refl

pub met_fits : (kinds : ℕ → List Kind) (p : Parts) → AreWorked kinds → p ≡ met → fits kinds p ≡ true
met_fits kinds p w e = (λ i. fits kinds (e i)) ∙ met_bound kinds w

met_by_keys_rules : KeepsRules met_by_keys
unfolding hidden-the_row-Expr-0 hidden
met_by_keys_rules = record {
  some_sources = omega arith;
  few_sources = omega arith;
  some_items = omega arith;
  few_items = omega arith;
  conds_fault_never = refl;
  having_faults_never = refl;
  small = refl;
  plain = refl;
  counts_of_one = refl;
  group_columns = refl;
  order_columns = refl;
}

pub met_by_keys_keeps : (p : Parts) → p ≡ met_by_keys → KeepsRules p
met_by_keys_keeps p e = subst KeepsRules (sym e) met_by_keys_rules

met_by_keys_bound : (kinds : ℕ → List Kind) → AreWorked kinds → fits kinds met_by_keys ≡ true
unfolding four hidden-the_row-Expr-0 hidden
met_by_keys_bound kinds w = (λ i. fits (four (w.u i) (w.v i) (w.shop i) (w.sale i)) met_by_keys) ∙ refl

pub met_by_keys_fits : (kinds : ℕ → List Kind) (p : Parts) → AreWorked kinds → p ≡ met_by_keys → fits kinds p ≡ true
met_by_keys_fits kinds p w e = (λ i. fits kinds (e i)) ∙ met_by_keys_bound kinds w

few_met_rules : KeepsRules few_met
unfolding hidden-the_row-Expr-0 hidden
few_met_rules = record {
  some_sources = omega arith;
  few_sources = omega arith;
  some_items = omega arith;
  few_items = omega arith;
  conds_fault_never = refl;
  having_faults_never = refl;
  small = refl;
  plain = refl;
  counts_of_one = refl;
  group_columns = refl;
  order_columns = refl;
}

pub few_met_keeps : (p : Parts) → p ≡ few_met → KeepsRules p
few_met_keeps p e = subst KeepsRules (sym e) few_met_rules

few_met_bound : (kinds : ℕ → List Kind) → AreWorked kinds → fits kinds few_met ≡ true
unfolding four hidden-the_row-Expr-0 hidden
few_met_bound kinds w = (λ i. fits (four (w.u i) (w.v i) (w.shop i) (w.sale i)) few_met) ∙ refl

pub few_met_fits : (kinds : ℕ → List Kind) (p : Parts) → AreWorked kinds → p ≡ few_met → fits kinds p ≡ true
few_met_fits kinds p w e = (λ i. fits kinds (e i)) ∙ few_met_bound kinds w

in_city_rules : (city : List ℕ) → KeepsRules (in_city city)
unfolding hidden-the_row-Expr-0 hidden
in_city_rules city = record {
  some_sources = omega arith;
  few_sources = omega arith;
  some_items = omega arith;
  few_items = omega arith;
  conds_fault_never = refl;
  having_faults_never = refl;
  small = refl;
  plain = refl;
  counts_of_one = refl;
  group_columns = refl;
  order_columns = refl;
}

pub in_city_keeps : (p : Parts) (city : List ℕ) → p ≡ in_city city → KeepsRules p
in_city_keeps p city e = subst KeepsRules (sym e) (in_city_rules city)

in_city_bound : (kinds : ℕ → List Kind) (city : List ℕ) → AreWorked kinds → fits kinds (in_city city) ≡ true
unfolding four hidden-the_row-Expr-0 hidden
in_city_bound kinds city w = (λ i. fits (four (w.u i) (w.v i) (w.shop i) (w.sale i)) (in_city city)) ∙ refl

pub in_city_fits : (kinds : ℕ → List Kind) (p : Parts) (city : List ℕ) → AreWorked kinds → p ≡ in_city city → fits kinds p ≡ true
in_city_fits kinds p city w e = (λ i. fits kinds (e i)) ∙ in_city_bound kinds city w

chained_rules : KeepsRules chained
unfolding hidden-the_row-Expr-0 hidden
chained_rules = record {
  some_sources = omega arith;
  few_sources = omega arith;
  some_items = omega arith;
  few_items = omega arith;
  conds_fault_never = refl;
  having_faults_never = refl;
  small = refl;
  plain = refl;
  counts_of_one = refl;
  group_columns = refl;
  order_columns = refl;
}

pub chained_keeps : (p : Parts) → p ≡ chained → KeepsRules p
chained_keeps p e = subst KeepsRules (sym e) chained_rules

chained_bound : (kinds : ℕ → List Kind) → AreWorked kinds → fits kinds chained ≡ true
unfolding four hidden-the_row-Expr-0 hidden
chained_bound kinds w = (λ i. fits (four (w.u i) (w.v i) (w.shop i) (w.sale i)) chained) ∙ refl

pub chained_fits : (kinds : ℕ → List Kind) (p : Parts) → AreWorked kinds → p ≡ chained → fits kinds p ≡ true
chained_fits kinds p w e = (λ i. fits kinds (e i)) ∙ chained_bound kinds w

sold_rules : KeepsRules sold
unfolding hidden-the_row-Expr-0 hidden
sold_rules = record {
  some_sources = omega arith;
  few_sources = omega arith;
  some_items = omega arith;
  few_items = omega arith;
  conds_fault_never = refl;
  having_faults_never = refl;
  small = refl;
  plain = refl;
  counts_of_one = refl;
  group_columns = refl;
  order_columns = refl;
}

pub sold_keeps : (p : Parts) → p ≡ sold → KeepsRules p
sold_keeps p e = subst KeepsRules (sym e) sold_rules

sold_bound : (kinds : ℕ → List Kind) → AreWorked kinds → fits kinds sold ≡ true
unfolding four hidden-the_row-Expr-0 hidden
sold_bound kinds w = (λ i. fits (four (w.u i) (w.v i) (w.shop i) (w.sale i)) sold) ∙ refl

pub sold_fits : (kinds : ℕ → List Kind) (p : Parts) → AreWorked kinds → p ≡ sold → fits kinds p ≡ true
sold_fits kinds p w e = (λ i. fits kinds (e i)) ∙ sold_bound kinds w
