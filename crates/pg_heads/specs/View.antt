-- What the scan of a head tells.
use Rattle.pg_messages.specs.Head as heads
use Rattle.pg_heads.specs.declared.scan.Scan.{Scan}
use Rattle.pg_heads.specs.declared.scan.Scan.TheVariants.{Open, OverLimit, Ended}

abbrev pub scan_view : Scan → heads.Scan
scan_view Open = heads.open_head
scan_view OverLimit = heads.over_limit
scan_view (Ended blank head) = heads.ended blank head
