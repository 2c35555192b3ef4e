-- The example of docs/CERTIFICATES.md.
use Rattle.std.proofs.Common.{◌≡◌, [], refl}
use Rattle.std.specs.Prelude.{codes}
use Rattle.std.specs.Fmt.{digits}
use Rattle.pg_logic.specs.Tree.{free, bound, nought, succ, app, none, arg, eq, all}
use Rattle.pg_logic.specs.Kernel.{hyp, thm, alli, alle, repl, ind}
use Rattle.pg_cert.specs.Certificates.{certificate_text}

example : certificate_text (codes "Addition") 1
    (alli (ind (eq (app 0 (arg nought (arg (bound 0) none))) (bound 0)) (free 0)
    (alle (eq (app 0 (arg (bound 0) (arg nought none))) (bound 0)) nought (thm 2))
    (repl (eq (app 0 (arg nought (arg (succ (free 1)) none))) (succ (bound 0))) (app 0 (arg nought (arg (free 1) none))) (free 1)
    (hyp 0)
    (alle (eq (app 0 (arg nought (arg (succ (bound 0)) none))) (succ (app 0 (arg nought (arg (bound 0) none))))) (free 1)
    (alle (all [] (eq (app 0 (arg (bound 1) (arg (succ (bound 0)) none))) (succ (app 0 (arg (bound 1) (arg (bound 0) none)))))) nought (thm 3))))))
    ≡ codes "cert 1\nlevel Addition 1\n1 thm 2\n2 alle =(f0(b0,0),b0) 0 #1\n3 hyp 0\n4 thm 3\n5 alle !(=(f0(b1,s(b0)),s(f0(b1,b0)))) 0 #4\n6 alle =(f0(0,s(b0)),s(f0(0,b0))) v1 #5\n7 repl =(f0(0,s(v1)),s(b0)) f0(0,v1) v1 #3 #6\n8 ind =(f0(0,b0),b0) v0 #2 #7\n9 alli #8\nend\n"
unfolding digits
example = refl
