-- The definitions at work.
use Rattle.std.proofs.Common.{◌≡◌, codes, Some, None, refl}
use Rattle.hq_lex.specs.Front.{front, gap}
use Rattle.hq_lex.specs.Step.{step_at}
use Rattle.hq_lex.specs.declared.token.TokenKind.TheVariants as kind
use Rattle.hq_lex.specs.declared.step.Step.TheVariants as step

-- a word ends before the sign
word : front (codes "ab_1+2") ≡ Some (kind.Word, 4)
unfolding front
word = refl

-- digits with a letter behind them are no token
not_digits : front (codes "12x") ≡ None
unfolding front
not_digits = refl

-- the longest sign wins
longest : front (codes "<=1") ≡ Some (kind.Sign, 2)
unfolding front
longest = refl

not_a_sign : front (codes "!a") ≡ None
unfolding front
not_a_sign = refl

-- a doubled quote doesn't end a text
quoted : front (codes "'a''b'c") ≡ Some (kind.Text, 6)
unfolding front
quoted = refl

unended : front (codes "'a''") ≡ None
unfolding front
unended = refl

-- a comment goes on up to the end
commented : step_at 0 (codes " -- a") ≡ step.End
unfolding step_at gap
commented = refl

-- a lone minus is a sign, and two begin a comment
minus : step_at 7 (codes " -1--") ≡ step.Token kind.Sign 8 9
unfolding step_at gap front
minus = refl
