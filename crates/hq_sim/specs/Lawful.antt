-- What a link in memory tells is right at any time.
use Rattle.std.specs.Prelude.{◌≡◌, ℕ, Bool, true, false, cond, List, length, Option, Some, None, refl, is_some, ◌==◌}
use Rattle.hq_link.specs.Link.{LinkState, IsLawful, IsToldOf, AreTold}
use Rattle.hq_sim.specs.declared.act.Act.{Act}
use Rattle.hq_sim.specs.declared.script.Script.{Script}
use Rattle.hq_sim.specs.declared.script.Script.TheVariants.{Acts, Dropping, Drawn}
use Rattle.hq_sim.specs.Acting.{SimState, state_of, is_sound, roughness, all_work}

-- what is promised is told
is_told : (o : Option ℕ) (s : LinkState) → AreTold s.may → AreTold s.flying → (is_some o ≡ true → s.sound ≡ true) → IsToldOf o s
is_told None s may flying sound = tt
is_told (Some r) s may flying sound = (sound refl, may, flying)

some_where : (b : Bool) (n : ℕ) → is_some (cond b (Some n) None) ≡ true → b ≡ true
some_where true n e = refl
some_where false n e = e

-- a promise is made only by a sound script
sound_where : (script : Script) → is_some (roughness script) ≡ true → is_sound script ≡ true
sound_where (Acts acts) e = some_where (all_work acts) (length acts) e
sound_where (Dropping seq left) e = refl
sound_where (Drawn draws per_mille) e = refl

pub is_lawful : (s : SimState) → IsLawful (state_of s)
is_lawful s = record { counted = (refl, refl); told = is_told (roughness s.script) (state_of s) tt tt (sound_where s.script) }
