-- Where a door waits, and what it gives there.
use Rattle.std.specs.Prelude.{◌≡◌, Option, None, IsSome, IfOk, Result, Ok, Err}
use Rattle.pg_base.specs.declared.outside.OutFault.{OutFault}
use Rattle.pg_base.specs.declared.outside.Place.{Place}
use Rattle.pg_base.specs.declared.outside.Place.TheVariants.{Standard, Port}
use Rattle.pg_tcp.specs.declared.door.Waits.{Waits}
use Rattle.pg_tcp.specs.declared.door.Waits.TheVariants.{Nowhere, AtStreams, AtPort}

-- it waits at this place
abbrev pub WaitsAt : {L : Type 0} → Waits L → Place → Type 0
WaitsAt Nowhere place = ⊥
WaitsAt AtStreams Standard = Unit {0}
WaitsAt AtStreams (Port n) = ⊥
WaitsAt (AtPort listener) Standard = ⊥
WaitsAt (AtPort listener) (Port n) = Unit {0}

-- it waits at this place from now on, or where it did before where that was refused
abbrev pub StartsAt : {L T : Type 0} → Waits L → Waits L → Result T OutFault → Place → Type 0
StartsAt old new (Ok x) place = WaitsAt new place
StartsAt old new (Err e) place = new ≡ old

-- At the standard streams it gives them once. At a port it gives a connection or fails, and elsewhere there is none.
abbrev pub GivesAt : {L C : Type 0} → Waits L → Option C → Result (Option C) OutFault → Type 0
GivesAt Nowhere standard result = result ≡ Ok None
GivesAt AtStreams standard result = result ≡ Ok standard
GivesAt (AtPort listener) standard result = IfOk result IsSome

-- the standard streams that are still to be given after a connection was
abbrev pub left_at : {L C : Type 0} → Waits L → Option C → Option C
left_at Nowhere standard = standard
left_at AtStreams standard = None
left_at (AtPort listener) standard = standard
