-- That a row can go by a motion has one proof at most.
use Rattle.std.specs.Prelude.{List}
use Rattle.std.specs.Coded.{Unit-prop, ×_prop, Π_prop, →_prop, le_prop}
use Rattle.hq_value.specs.declared.value.Value.{Value}
use Rattle.hq_algebra.specs.declared.plan.Motion.{Motion}
use Rattle.hq_algebra.specs.declared.plan.Motion.TheVariants as motion
use Rattle.hq_dispatch.specs.Parcels.{CanGo}

pub CanGo-prop : (out : Motion) (row : List Value) → IsProp (CanGo out row)
CanGo-prop motion.Gather row = Unit-prop
CanGo-prop motion.Broadcast row = Unit-prop
CanGo-prop (motion.Redistribute keys) row = ×_prop le_prop (Π_prop (λ k. Π_prop (λ d. →_prop le_prop)))
CanGo-prop motion.Result row = Unit-prop
