-- Columns of one length. Assumes nothing.
use Rattle.std.specs.Prelude.{◌≡◌, ℕ, Ok, Err, Result, ◌≢◌}
use Rattle.rows.specs.declared.misfit.Misfit.{Misfit}
use Rattle.rows.specs.declared.misfit.Misfit.TheVariants.{Presence, Mask}

-- the arguments, their presence and the mask have one length; else the first that departs is named
abbrev pub Measures : {A : Type 0} → ℕ → ℕ → ℕ → Result A Misfit → Type 0
Measures arguments presence mask (Ok a) = (presence ≡ arguments) × (mask ≡ arguments)
Measures arguments presence mask (Err Presence) = presence ≡ arguments → ⊥
Measures arguments presence mask (Err Mask) = (presence ≡ arguments) × (mask ≢ arguments)
