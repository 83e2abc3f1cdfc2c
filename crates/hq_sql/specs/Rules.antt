-- Rules of a grammar, as data.
--     Spells rule ts x rest      the front of the lexemes ts spells x by the rule, and rest is what stands behind it
use Rattle.std.specs.Prelude.{◌≡◌, ◌⊎◌, ℕ, ◌^◌, ◌<◌, Bool, true, false, List, [], ◌∷◌, Option, Some, None}
use Rattle.hq_expr.specs.Grammar.{SpellsRef}
use Rattle.hq_expr.specs.Whole.{IsItem, IsCond, IsValue}
use Rattle.hq_expr.specs.Lists.{Listed}
use Rattle.hq_expr.specs.declared.lexeme.Lexeme.{Lexeme}
use Rattle.hq_expr.specs.declared.lexeme.Lexeme.TheVariants.{Mark, Name, Digits}
use Rattle.hq_expr.specs.declared.mark.Mark.{Mark as MarkType}
use Rattle.hq_expr.specs.declared.tree.ColumnRef.{ColumnRef}
use Rattle.hq_expr.specs.declared.tree.Literal.{Literal}
use Rattle.hq_expr.specs.declared.tree.SqlExpr.{SqlExpr}

-- A rule gives something of type A. `r then q with f` and so on are built from these.
pub data Rule : Type 0 → Type 1 where
  -- no lexeme
  nothing : {A : Type 0} → A → Rule A
  -- a reserved word or a sign
  mark : MarkType → Rule (Unit {0})
  -- one of several words, by what each stands for
  one_of : {A : Type 0} → (MarkType → Option A) → Rule A
  name : Rule (List ℕ)
  -- digits of a number below 2 ^ 63
  number : Rule ℕ
  reference : Rule ColumnRef
  value : Rule Literal
  sum : Rule SqlExpr
  -- aggregates may stand in it where the flag is true
  condition : Bool → Rule SqlExpr
  -- one rule and then another, and what both give together
  both : {A B C : Type 0} → (A → B → C) → Rule A → Rule B → Rule C
  either : {A : Type 0} → Rule A → Rule A → Rule A
  -- one or more, with commas between them
  listed : {A : Type 0} → Rule A → Rule (List A)
  -- any number, one behind another
  repeated : {A : Type 0} → Rule A → Rule (List A)
  -- what passes a test
  only : {A : Type 0} → (A → Bool) → Rule A → Rule A

-- any number of members
pub data Repeated {X : Type 0} (Member : List Lexeme → X → List Lexeme → Type 0) : List Lexeme → List X → List Lexeme → Type 0 where
  end : {ts : List Lexeme} → Repeated Member ts [] ts
  more : {ts mid rest : List Lexeme} {x : X} {xs : List X} → Member ts x mid → Repeated Member mid xs rest → Repeated Member ts (x ∷ xs) rest

abbrev pub Spells : {A : Type 0} → Rule A → List Lexeme → A → List Lexeme → Type 0
Spells (nothing a) ts x rest = (x ≡ a) × (ts ≡ rest)
Spells (mark m) ts x rest = ts ≡ Mark m ∷ rest
Spells (one_of meaning) ts x rest = (m : MarkType) × (ts ≡ Mark m ∷ rest) × (meaning m ≡ Some x)
Spells name ts x rest = ts ≡ Name x ∷ rest
Spells number ts x rest = (ts ≡ Digits x ∷ rest) × (x < 2 ^ 63)
Spells reference ts x rest = SpellsRef ts x rest
Spells value ts x rest = IsValue ts x rest
Spells sum ts x rest = IsItem ts x rest
Spells (condition aggs) ts x rest = IsCond aggs ts x rest
Spells (both {A = A} {B = B} f r q) ts x rest = (a : A) × (b : B) × (mid : List Lexeme) × Spells r ts a mid × Spells q mid b rest × (f a b ≡ x)
Spells (either r q) ts x rest = Spells r ts x rest ⊎ Spells q ts x rest
Spells (listed r) ts x rest = Listed (Spells r) ts x rest
Spells (repeated r) ts x rest = Repeated (Spells r) ts x rest
Spells (only test r) ts x rest = Spells r ts x rest × (test x ≡ true)

-- ---- words for building rules

-- a rule that gives nothing, and then one that gives something
infixr 10 ◌▸◌
abbrev pub ◌▸◌ : {A : Type 0} → Rule (Unit {0}) → Rule A → Rule A
r ▸ q = both (λ _ x. x) r q

-- a rule that gives something, and then one that gives nothing
infixl 10 ◌◂◌
abbrev pub ◌◂◌ : {A : Type 0} → Rule A → Rule (Unit {0}) → Rule A
r ◂ q = both (λ x _. x) r q

-- what a rule gives, made into something else
abbrev pub made : {A B : Type 0} → (A → B) → Rule A → Rule B
made f r = both (λ x _. f x) r (nothing (tt {0}))

-- a word that stands for something
abbrev pub word : {A : Type 0} → MarkType → A → Rule A
word m a = mark m ▸ nothing a

-- what may be missing
abbrev pub optional : {A : Type 0} → Rule A → Rule (Option A)
optional r = either (made Some r) (nothing None)

-- a list, or nothing where its clause is missing
abbrev pub optional_list : {A : Type 0} → Rule (List A) → Rule (List A)
optional_list r = either r (nothing [])

-- a word that is there or not
abbrev pub whether : MarkType → Rule Bool
whether m = either (word m true) (nothing false)
