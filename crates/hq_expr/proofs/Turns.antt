-- A level read by a loop that counts up.
use Rattle.std.proofs.Common.{◌≡◌, ℕ, zero, suc, ◌+◌, ◌-◌, ◌<◌, ◌≤◌, Bool, true, false, Some, None, Option, Result, Ok, ap, sym, ◌∙◌, refl, arith}
use Rattle.hq_expr.specs.State.{State}
use Rattle.hq_expr.specs.Words.{Level, Sum, Term, Cond, Both, joins, arith_of}
use Rattle.hq_expr.specs.Reader.{Parser, peek, start_of, sees, skipped, spend, Reads}
use Rattle.hq_expr.specs.declared.fault.ParseFault.{ParseFault}
use Rattle.hq_expr.specs.Reading as read
use Rattle.hq_expr.specs.declared.cursor.Peek.{Peek}
use Rattle.hq_expr.specs.declared.cursor.Peek.TheVariants as p
use Rattle.hq_expr.specs.declared.cursor.Start.{Start}
use Rattle.hq_expr.specs.declared.cursor.Start.TheVariants as start
use Rattle.hq_expr.specs.declared.mark.Mark.TheVariants as m
use Rattle.hq_value.specs.declared.operator.ArithKind.{ArithKind}
use Rattle.hq_expr.specs.declared.tree.SqlExpr.{SqlExpr}
use Rattle.hq_expr.specs.declared.tree.SqlExpr.TheVariants as e

-- one turn: a sign, one more operator, a part
pub one_turn : (level : Level) (P : Parser SqlExpr) (end at : ℕ) (left right new : SqlExpr) (join : SqlExpr → SqlExpr → SqlExpr) (s t u : State) (all : Option (SqlExpr × State))
    → at < end → read.joined level (peek s.rest) ≡ Some join → spend (skipped s) ≡ Some (tt, t) → P t ≡ Some (right, u) → new ≡ join left right
    → all ≡ read.chain level P (end - at) left s → all ≡ read.chain level P (end - (at + 1)) new u
unfolding read.chain
one_turn level P end at left right new join s t u all below is paid part made e =
    let turn : end - at ≡ suc (end - (at + 1)) = omega arith in
    e ∙ rw (turn, is, paid, part, made) refl

pub joined_adds : (k : Peek) (kind : ArithKind) → Some kind ≡ read.adds_at k → read.joined Sum k ≡ Some (e.Arith kind)
joined_adds p.End kind h = cc
joined_adds (p.Mark sign) kind h = ap arith_of (sym h)
joined_adds p.Name kind h = cc
joined_adds p.Digits kind h = cc
joined_adds p.Text kind h = cc
joined_adds p.Long kind h = cc

pub joined_times : (k : Peek) (kind : ArithKind) → Some kind ≡ read.multiplies_at k → read.joined Term k ≡ Some (e.Arith kind)
joined_times p.End kind h = cc
joined_times (p.Mark sign) kind h = ap arith_of (sym h)
joined_times p.Name kind h = cc
joined_times p.Digits kind h = cc
joined_times p.Text kind h = cc
joined_times p.Long kind h = cc

pub joined_and : (k : Peek) → sees m.And k ≡ true → read.joined Both k ≡ Some e.And
joined_and (p.Mark m.And) h = refl
joined_and _ h = cc

pub joined_no_and : (k : Peek) → sees m.And k ≡ false → read.joined Both k ≡ None
joined_no_and (p.Mark m.And) h = cc
joined_no_and _ h = refl

pub joined_or : (k : Peek) → sees m.Or k ≡ true → read.joined Cond k ≡ Some e.Or
joined_or (p.Mark m.Or) h = refl
joined_or _ h = cc

pub joined_no_or : (k : Peek) → sees m.Or k ≡ false → read.joined Cond k ≡ None
joined_no_or (p.Mark m.Or) h = cc
joined_no_or _ h = refl

factor_rest : (a : Bool) (below inner : Parser SqlExpr) (k : Start) → (k ≡ start.Open → ⊥) → (k ≡ start.Minus → ⊥) → read.factor_by a below inner k ≡ read.operand a inner
factor_rest a below inner start.Open h h' = absurd (h refl)
factor_rest a below inner start.Minus h h' = absurd (h' refl)
factor_rest a below inner _ h h' = refl

-- a factor that begins otherwise is an operand
pub factor_other : (d : ℕ) (a : Bool) (s : State) → 0 < d → (start_of (peek s.rest) ≡ start.Open → ⊥) → (start_of (peek s.rest) ≡ start.Minus → ⊥)
    → read.factor d a s ≡ read.operand a (read.sum (read.factor (d - 1) false)) s
unfolding read.factor
factor_other zero a s some h h' = absurd (omega arith)
factor_other (suc d) a s some h h' =
    let e : suc d - 1 ≡ d = omega arith in rw (e, factor_rest a (read.factor d a) (read.sum (read.factor d false)) (start_of (peek s.rest)) h h') refl

neg_rest : (a : Bool) (below inner : Parser SqlExpr) (k : Start) → (k ≡ start.Open → ⊥) → (k ≡ start.Not → ⊥) → read.neg_by a below inner k ≡ read.test_at (read.operand a inner)
neg_rest a below inner start.Open h h' = absurd (h refl)
neg_rest a below inner start.Not h h' = absurd (h' refl)
neg_rest a below inner _ h h' = refl

pub neg_other : (d : ℕ) (a : Bool) (s : State) → 0 < d → (start_of (peek s.rest) ≡ start.Open → ⊥) → (start_of (peek s.rest) ≡ start.Not → ⊥)
    → read.neg d a s ≡ read.test_at (read.operand a (read.sum (read.factor (d - 1) false))) s
unfolding read.neg
neg_other zero a s some h h' = absurd (omega arith)
neg_other (suc d) a s some h h' =
    let e : suc d - 1 ≡ d = omega arith in rw (e, neg_rest a (read.neg d a) (read.sum (read.factor d false)) (start_of (peek s.rest)) h h') refl

pub reads_ok : {A : Type 0} (read : Option (A × State)) (r : Result A ParseFault) (new : State) (x : A) → Reads read r new → r ≡ Ok x → read ≡ Some (x, new)
reads_ok read r new x h e = rw e at h
