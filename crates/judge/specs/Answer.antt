-- The five figures of an answer; those of a refusal are 0.
use Rattle.std.specs.Prelude.{Result, Ok, Err}
use Rattle.rules.specs.declared.Refusal.{Refusal}
use Rattle.losses.specs.declared.BusTime.{BusTime}

abbrev pub figures : Result BusTime Refusal → BusTime
figures (Ok t) = t
figures (Err q) = record { reference = 0; used = 0; in_window = 0; empty = 0; gaps = 0 }
