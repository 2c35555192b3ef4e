use Rattle.pg_heads.proofs.scan.+head_lines.Given as goal

abbrev pub decreases-head_lines : goal.decreases-head_lines
decreases-head_lines l = l.most
