-- What may come next, each once: so a test of tokens can be tried on all of them.
use Rattle.std.proofs.Common.{◌≡◌, ℕ, zero, suc, Bool, true, false, ◌&&◌, List, [], ◌∷◌, Some, refl, subst}
use Rattle.std.specs.Prelude.{slice_get}
use Rattle.std.specs.List.{list_all}
use Rattle.hq_expr.specs.declared.cursor.Peek.{Peek}
use Rattle.hq_expr.specs.declared.cursor.Peek.TheVariants as p
use Rattle.hq_expr.specs.declared.mark.Mark.TheVariants as m

unfoldable pub peeks : List Peek
peeks = p.End ∷ p.Name ∷ p.Digits ∷ p.Text ∷ p.Long
    ∷ p.Mark m.Open ∷ p.Mark m.Close ∷ p.Mark m.Comma ∷ p.Mark m.Dot ∷ p.Mark m.Star ∷ p.Mark m.Plus ∷ p.Mark m.Minus
    ∷ p.Mark m.Equal ∷ p.Mark m.NotEqual ∷ p.Mark m.Less ∷ p.Mark m.AtMost ∷ p.Mark m.Greater ∷ p.Mark m.AtLeast ∷ p.Mark m.Add
    ∷ p.Mark m.Alter ∷ p.Mark m.And ∷ p.Mark m.As ∷ p.Mark m.Asc ∷ p.Mark m.Begin ∷ p.Mark m.Bigint ∷ p.Mark m.Bool
    ∷ p.Mark m.Boolean ∷ p.Mark m.By ∷ p.Mark m.Column ∷ p.Mark m.Commit ∷ p.Mark m.Count ∷ p.Mark m.Create ∷ p.Mark m.Desc
    ∷ p.Mark m.Distinct ∷ p.Mark m.Distributed ∷ p.Mark m.False ∷ p.Mark m.From ∷ p.Mark m.Group ∷ p.Mark m.Having ∷ p.Mark m.Inner
    ∷ p.Mark m.Insert ∷ p.Mark m.Int ∷ p.Mark m.Integer ∷ p.Mark m.Into ∷ p.Mark m.Is ∷ p.Mark m.Join ∷ p.Mark m.Limit
    ∷ p.Mark m.Max ∷ p.Mark m.Min ∷ p.Mark m.Not ∷ p.Mark m.Null ∷ p.Mark m.On ∷ p.Mark m.Or ∷ p.Mark m.Order
    ∷ p.Mark m.Randomly ∷ p.Mark m.Rollback ∷ p.Mark m.Select ∷ p.Mark m.Snapshot ∷ p.Mark m.Sum ∷ p.Mark m.Table ∷ p.Mark m.Text
    ∷ p.Mark m.True ∷ p.Mark m.Values ∷ p.Mark m.Where
    ∷ []

-- a token that passes a test and those behind it
pub both_pass : (a b : Bool) → (a && b) ≡ true → (a ≡ true) × (b ≡ true)
both_pass true true h = (refl, refl)
both_pass true false h = cc
both_pass false b h = cc

pub at_place : (f : Peek → Bool) (ks : List Peek) → list_all f ks ≡ true → (n : ℕ) (k : Peek) → slice_get ks n ≡ Some k → f k ≡ true
at_place f [] h n k is = cc
at_place f (x ∷ ks) h zero k is = let e : x ≡ k = cc in subst (λ y. f y ≡ true) e (both_pass (f x) (list_all f ks) h).0
at_place f (x ∷ ks) h (suc n) k is = at_place f ks (both_pass (f x) (list_all f ks) h).1 n k is

-- what passes everywhere passes at each token
pub everywhere : (f : Peek → Bool) → list_all f peeks ≡ true → (k : Peek) → f k ≡ true
unfolding peeks
everywhere f h p.End = at_place f peeks h 0 p.End refl
everywhere f h p.Name = at_place f peeks h 1 p.Name refl
everywhere f h p.Digits = at_place f peeks h 2 p.Digits refl
everywhere f h p.Text = at_place f peeks h 3 p.Text refl
everywhere f h p.Long = at_place f peeks h 4 p.Long refl
everywhere f h (p.Mark m.Open) = at_place f peeks h 5 (p.Mark m.Open) refl
everywhere f h (p.Mark m.Close) = at_place f peeks h 6 (p.Mark m.Close) refl
everywhere f h (p.Mark m.Comma) = at_place f peeks h 7 (p.Mark m.Comma) refl
everywhere f h (p.Mark m.Dot) = at_place f peeks h 8 (p.Mark m.Dot) refl
everywhere f h (p.Mark m.Star) = at_place f peeks h 9 (p.Mark m.Star) refl
everywhere f h (p.Mark m.Plus) = at_place f peeks h 10 (p.Mark m.Plus) refl
everywhere f h (p.Mark m.Minus) = at_place f peeks h 11 (p.Mark m.Minus) refl
everywhere f h (p.Mark m.Equal) = at_place f peeks h 12 (p.Mark m.Equal) refl
everywhere f h (p.Mark m.NotEqual) = at_place f peeks h 13 (p.Mark m.NotEqual) refl
everywhere f h (p.Mark m.Less) = at_place f peeks h 14 (p.Mark m.Less) refl
everywhere f h (p.Mark m.AtMost) = at_place f peeks h 15 (p.Mark m.AtMost) refl
everywhere f h (p.Mark m.Greater) = at_place f peeks h 16 (p.Mark m.Greater) refl
everywhere f h (p.Mark m.AtLeast) = at_place f peeks h 17 (p.Mark m.AtLeast) refl
everywhere f h (p.Mark m.Add) = at_place f peeks h 18 (p.Mark m.Add) refl
everywhere f h (p.Mark m.Alter) = at_place f peeks h 19 (p.Mark m.Alter) refl
everywhere f h (p.Mark m.And) = at_place f peeks h 20 (p.Mark m.And) refl
everywhere f h (p.Mark m.As) = at_place f peeks h 21 (p.Mark m.As) refl
everywhere f h (p.Mark m.Asc) = at_place f peeks h 22 (p.Mark m.Asc) refl
everywhere f h (p.Mark m.Begin) = at_place f peeks h 23 (p.Mark m.Begin) refl
everywhere f h (p.Mark m.Bigint) = at_place f peeks h 24 (p.Mark m.Bigint) refl
everywhere f h (p.Mark m.Bool) = at_place f peeks h 25 (p.Mark m.Bool) refl
everywhere f h (p.Mark m.Boolean) = at_place f peeks h 26 (p.Mark m.Boolean) refl
everywhere f h (p.Mark m.By) = at_place f peeks h 27 (p.Mark m.By) refl
everywhere f h (p.Mark m.Column) = at_place f peeks h 28 (p.Mark m.Column) refl
everywhere f h (p.Mark m.Commit) = at_place f peeks h 29 (p.Mark m.Commit) refl
everywhere f h (p.Mark m.Count) = at_place f peeks h 30 (p.Mark m.Count) refl
everywhere f h (p.Mark m.Create) = at_place f peeks h 31 (p.Mark m.Create) refl
everywhere f h (p.Mark m.Desc) = at_place f peeks h 32 (p.Mark m.Desc) refl
everywhere f h (p.Mark m.Distinct) = at_place f peeks h 33 (p.Mark m.Distinct) refl
everywhere f h (p.Mark m.Distributed) = at_place f peeks h 34 (p.Mark m.Distributed) refl
everywhere f h (p.Mark m.False) = at_place f peeks h 35 (p.Mark m.False) refl
everywhere f h (p.Mark m.From) = at_place f peeks h 36 (p.Mark m.From) refl
everywhere f h (p.Mark m.Group) = at_place f peeks h 37 (p.Mark m.Group) refl
everywhere f h (p.Mark m.Having) = at_place f peeks h 38 (p.Mark m.Having) refl
everywhere f h (p.Mark m.Inner) = at_place f peeks h 39 (p.Mark m.Inner) refl
everywhere f h (p.Mark m.Insert) = at_place f peeks h 40 (p.Mark m.Insert) refl
everywhere f h (p.Mark m.Int) = at_place f peeks h 41 (p.Mark m.Int) refl
everywhere f h (p.Mark m.Integer) = at_place f peeks h 42 (p.Mark m.Integer) refl
everywhere f h (p.Mark m.Into) = at_place f peeks h 43 (p.Mark m.Into) refl
everywhere f h (p.Mark m.Is) = at_place f peeks h 44 (p.Mark m.Is) refl
everywhere f h (p.Mark m.Join) = at_place f peeks h 45 (p.Mark m.Join) refl
everywhere f h (p.Mark m.Limit) = at_place f peeks h 46 (p.Mark m.Limit) refl
everywhere f h (p.Mark m.Max) = at_place f peeks h 47 (p.Mark m.Max) refl
everywhere f h (p.Mark m.Min) = at_place f peeks h 48 (p.Mark m.Min) refl
everywhere f h (p.Mark m.Not) = at_place f peeks h 49 (p.Mark m.Not) refl
everywhere f h (p.Mark m.Null) = at_place f peeks h 50 (p.Mark m.Null) refl
everywhere f h (p.Mark m.On) = at_place f peeks h 51 (p.Mark m.On) refl
everywhere f h (p.Mark m.Or) = at_place f peeks h 52 (p.Mark m.Or) refl
everywhere f h (p.Mark m.Order) = at_place f peeks h 53 (p.Mark m.Order) refl
everywhere f h (p.Mark m.Randomly) = at_place f peeks h 54 (p.Mark m.Randomly) refl
everywhere f h (p.Mark m.Rollback) = at_place f peeks h 55 (p.Mark m.Rollback) refl
everywhere f h (p.Mark m.Select) = at_place f peeks h 56 (p.Mark m.Select) refl
everywhere f h (p.Mark m.Snapshot) = at_place f peeks h 57 (p.Mark m.Snapshot) refl
everywhere f h (p.Mark m.Sum) = at_place f peeks h 58 (p.Mark m.Sum) refl
everywhere f h (p.Mark m.Table) = at_place f peeks h 59 (p.Mark m.Table) refl
everywhere f h (p.Mark m.Text) = at_place f peeks h 60 (p.Mark m.Text) refl
everywhere f h (p.Mark m.True) = at_place f peeks h 61 (p.Mark m.True) refl
everywhere f h (p.Mark m.Values) = at_place f peeks h 62 (p.Mark m.Values) refl
everywhere f h (p.Mark m.Where) = at_place f peeks h 63 (p.Mark m.Where) refl
