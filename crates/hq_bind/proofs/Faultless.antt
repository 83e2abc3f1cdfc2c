-- Where there is no refusal nothing is wrong.
use Rattle.std.proofs.Common.{◌≡◌, Bool, true, false, not, ◌||◌, cond, Some, None, refl}
use Rattle.hq_bind.specs.declared.faults.Faults.{Faults}
use Rattle.hq_bind.specs.declared.refusal.Refusal.TheVariants as refused
use Rattle.std.proofs.Common.{List}
use Rattle.std.specs.List.{list_any}
use Rattle.hq_value.specs.declared.kind.Kind.{Kind}
use Rattle.hq_value.specs.declared.table.Column.{Column}
use Rattle.hq_algebra.specs.declared.kinds.ExprKind.{ExprKind}
use Rattle.hq_bind.specs.Scope.{Name}
use Rattle.hq_bind.specs.Faults.{first_of, with_list, output_faults, is_no_column, kinds_fit}

pub record Faultless (f : Faults) : Type 0 where
  pub undefined_table : f.undefined_table ≡ false
  pub duplicate_source : f.duplicate_source ≡ false
  pub limit : f.limit ≡ false
  pub duplicate_column : f.duplicate_column ≡ false
  pub undefined_column : f.undefined_column ≡ false
  pub ambiguous_column : f.ambiguous_column ≡ false
  pub type_mismatch : f.type_mismatch ≡ false
  pub not_grouped : f.not_grouped ≡ false

pub faultless : (f : Faults) → first_of f ≡ None → Faultless f
faultless f h = go f.undefined_table f.duplicate_source f.limit f.duplicate_column f.undefined_column f.ambiguous_column f.type_mismatch f.not_grouped refl refl refl refl refl refl refl refl h
  where
    go : (a b c d x y z w : Bool) → f.undefined_table ≡ a → f.duplicate_source ≡ b → f.limit ≡ c → f.duplicate_column ≡ d → f.undefined_column ≡ x → f.ambiguous_column ≡ y → f.type_mismatch ≡ z → f.not_grouped ≡ w
        → cond a (Some refused.UndefinedTable) (cond b (Some refused.DuplicateSource) (cond c (Some refused.Limit) (cond d (Some refused.DuplicateColumn) (cond x (Some refused.UndefinedColumn)
        (cond y (Some refused.AmbiguousColumn) (cond z (Some refused.TypeMismatch) (cond w (Some refused.NotGrouped) None))))))) ≡ None → Faultless f
    go true b c d x y z w ea eb ec ed ex ey ez ew h = cc
    go false true c d x y z w ea eb ec ed ex ey ez ew h = cc
    go false false true d x y z w ea eb ec ed ex ey ez ew h = cc
    go false false false true x y z w ea eb ec ed ex ey ez ew h = cc
    go false false false false true y z w ea eb ec ed ex ey ez ew h = cc
    go false false false false false true z w ea eb ec ed ex ey ez ew h = cc
    go false false false false false false true w ea eb ec ed ex ey ez ew h = cc
    go false false false false false false false true ea eb ec ed ex ey ez ew h = cc
    go false false false false false false false false ea eb ec ed ex ey ez ew h = record {
      undefined_table = ea;
      duplicate_source = eb;
      limit = ec;
      duplicate_column = ed;
      undefined_column = ex;
      ambiguous_column = ey;
      type_mismatch = ez;
      not_grouped = ew;
    }

pub or_left : (a b : Bool) → (a || b) ≡ false → a ≡ false
or_left true b h = cc
or_left false b h = refl

-- nothing but the refusal of these
pub none_of : (f : Faults) → f.undefined_table ≡ false → f.duplicate_source ≡ false → f.limit ≡ false → f.duplicate_column ≡ false → f.undefined_column ≡ false → f.ambiguous_column ≡ false → f.type_mismatch ≡ false → f.not_grouped ≡ false
    → first_of f ≡ None
none_of f a b c d x y z w = rw (a, b, c, d, x, y, z, w) refl

-- a SELECT that an INSERT takes has no refusal of its own
pub allowed_within : (columns : List Column) (names : List Name) (ks : List Kind) (outputs : List ExprKind) (f : Faults) → f.duplicate_column ≡ false → first_of (with_list columns names (output_faults ks outputs f)) ≡ None → first_of f ≡ None
allowed_within columns names ks outputs f d none =
    let w = faultless (with_list columns names (output_faults ks outputs f)) none in
    none_of f w.undefined_table w.duplicate_source w.limit d (or_left f.undefined_column (list_any (is_no_column columns) names) w.undefined_column) w.ambiguous_column (or_left f.type_mismatch (not (kinds_fit ks outputs)) w.type_mismatch) w.not_grouped
