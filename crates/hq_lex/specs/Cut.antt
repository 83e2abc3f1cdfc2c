-- All tokens of a text, and the first place where no token begins.
--     IsTokens at rest ts      the text from the place `at` on, `rest`, is cut into these tokens
--     NoTokenAt at rest place  tokens up to `place`, and there something that begins none
--     AreSlices text at ts     the tokens are slices of the text in order
use Rattle.std.specs.Prelude.{◌≡◌, ℕ, ◌-◌, ◌<◌, ◌≤◌, List, [], ◌∷◌, length, drop, Some}
use Rattle.hq_lex.specs.Front.{front}
use Rattle.hq_lex.specs.Step.{step_at}
use Rattle.hq_lex.specs.declared.token.TokenKind.{TokenKind}
use Rattle.hq_lex.specs.declared.token.Token.{Token}
use Rattle.hq_lex.specs.declared.step.Step.TheVariants as step

pub data IsTokens (text : List ℕ) : ℕ → List Token → Type 0 where
  -- nothing but spaces and comments
  end : {at : ℕ} → step_at at (drop at text) ≡ step.End → IsTokens text at []
  -- a token, and the tokens behind it
  token : {at start stop : ℕ} {kind : TokenKind} {ts : List Token}
      → step_at at (drop at text) ≡ step.Token kind start stop → IsTokens text stop ts
      → IsTokens text at (record { kind = kind; start = start; end = stop } ∷ ts)

pub data NoTokenAt (text : List ℕ) : ℕ → ℕ → Type 0 where
  -- here no token begins
  here : {at place : ℕ} → step_at at (drop at text) ≡ step.Fault place → NoTokenAt text at place
  -- a token, and later none
  later : {at start stop place : ℕ} {kind : TokenKind}
      → step_at at (drop at text) ≡ step.Token kind start stop → NoTokenAt text stop place → NoTokenAt text at place

-- the token is a slice of the text that is a token of its kind
abbrev pub IsSlice : List ℕ → Token → Type 0
IsSlice text t = (t.start < t.end) × (t.end ≤ length text) × (front (drop t.start text) ≡ Some (t.kind, t.end - t.start))

-- each token is a slice of the text, behind the one before it
abbrev pub AreSlices : List ℕ → ℕ → List Token → Type 0
AreSlices text at [] = Unit {0}
AreSlices text at (t ∷ ts) = (at ≤ t.start) × IsSlice text t × AreSlices text t.end ts
