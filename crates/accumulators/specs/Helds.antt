-- What the counts of rows become with a batch more, and without one. Assumes nothing.
use Rattle.std.specs.Prelude.{◌≡◌, ◌+◌, ◌-◌, ◌%◌, ◌^◌, ◌<◌, ◌≤◌, Ok, Err, Some, None, Option, Result}
use Rattle.rows.specs.declared.gather.Tally.{Tally}
use Rattle.accumulators.specs.Figures.{most_rows}
use Rattle.accumulators.specs.declared.held.Held.{Held}
use Rattle.accumulators.specs.declared.refusals.Full.{Full}

-- a batch is counted in, or refused where the rows would pass the capacity
abbrev pub Takes : Held → Tally → Result Held Full → Type 0
Takes h b (Ok h') = (h'.rows ≡ h.rows + b.rows) × (h'.rows ≤ most_rows) × (h'.present ≡ (h.present + b.present) % 2 ^ 64)
Takes h b (Err e) = (most_rows < h.rows + b.rows) × (e.held ≡ h.rows) × (e.offered ≡ b.rows)

-- a batch is counted out, where it has no more rows than are held; the values stop at 0
abbrev pub LetsGo : Held → Tally → Option Held → Type 0
LetsGo h b (Some h') = (b.rows ≤ h.rows) × (h'.rows ≡ h.rows - b.rows) × (h'.present ≡ h.present - b.present)
LetsGo h b None = h.rows < b.rows
