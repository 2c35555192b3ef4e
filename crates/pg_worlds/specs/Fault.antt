-- When the order of worlds is refused.
use Rattle.pg_worlds.specs.declared.graph.WorldFault.{WorldFault}
use Rattle.pg_worlds.specs.declared.graph.WorldFault.TheVariants.{Loop, OutOfMemory}
use Rattle.pg_worlds.specs.Worlds.{Worlds, HasNoOrder, IsLoop}

-- a loop only where no order is, and then the real one; want of memory is free
abbrev pub IsOrderFault : Worlds → WorldFault → Type 0
IsOrderFault g (Loop worlds) = HasNoOrder g × IsLoop g worlds.items
IsOrderFault g OutOfMemory = Unit {0}
