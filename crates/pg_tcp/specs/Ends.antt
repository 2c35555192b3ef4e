-- What a connection's ends tell: that of the reader or the writer that they are.
use Rattle.pg_tcp.specs.declared.ends.Input.{Input}
use Rattle.pg_tcp.specs.declared.ends.Input.TheVariants as In
use Rattle.pg_tcp.specs.declared.ends.Output.{Output}
use Rattle.pg_tcp.specs.declared.ends.Output.TheVariants as Out

-- that of the stream, or of the standard reader
abbrev pub of_input : {S I T : Type 0} → (S → T) → (I → T) → Input S I → T
of_input stream standard (In.Stream s) = stream s
of_input stream standard (In.Standard i) = standard i

-- that of the stream, or of the standard writer
abbrev pub of_output : {S O T : Type 0} → (S → T) → (O → T) → Output S O → T
of_output stream standard (Out.Stream s) = stream s
of_output stream standard (Out.Standard o) = standard o
