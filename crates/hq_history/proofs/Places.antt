-- The entries of one session have places that climb.
use Rattle.std.proofs.Common.{◌+◌, ◌≤◌, ℕ, suc, zero, eqb, cond, true, false, Bool, List, [], ◌∷◌, refl, arith}
use Rattle.hq_history.specs.declared.noted.Noted.{Noted}
use Rattle.hq_history.specs.History.{by, Climbs, StandAt}

-- all places one further on
abbrev up : List ℕ → List ℕ
up [] = []
up (p ∷ ps) = suc p ∷ up ps

climbs_up : (from from' : ℕ) (ps : List ℕ) → from' ≤ suc from → Climbs from ps → Climbs from' (up ps)
climbs_up from from' [] b h = tt
climbs_up from from' (p ∷ ps) b h = let l = h.0 in (omega arith, climbs_up (p + 1) (suc p + 1) ps (omega arith) h.1)

stand_up : (x : Noted) (log : List Noted) (ps : List ℕ) (es : List Noted) → StandAt log ps es → StandAt (x ∷ log) (up ps) es
stand_up x log [] [] h = tt
stand_up x log (p ∷ ps) (e ∷ es) h = (h.0, stand_up x log ps es h.1)
stand_up x log [] (e ∷ es) h = absurd h
stand_up x log (p ∷ ps) [] h = absurd h

abbrev Placed : List Noted → List Noted → Type 0
Placed log es = (places : List ℕ) × Climbs 0 places × StandAt log places es

placed_step : (e : Noted) (log es : List Noted) (b : Bool) → Placed log es → Placed (e ∷ log) (cond b (e ∷ es) es)
placed_step e log es true h = (zero ∷ up h.0, (omega arith, climbs_up 0 1 h.0 (omega arith) h.1), (refl, stand_up e log h.0 es h.2))
placed_step e log es false h = (up h.0, climbs_up 0 0 h.0 (omega arith) h.1, stand_up e log h.0 es h.2)

pub placed : (n : ℕ) (log : List Noted) → Placed log (by n log)
placed n [] = ([], tt, tt)
placed n (e ∷ log) = placed_step e log (by n log) (eqb e.entry.session n) (placed n log)
