-- The script's letters: what each asks of a rig, what is printed for the reply, and what the rig has counted then.
use Rattle.std.specs.Prelude.{ℕ, true, false, cond, List, [], ◌∷◌, Some, None, Option, ◌==◌}
use Rattle.line.specs.Lines.{any_busy}
use Rattle.rig.specs.Rigs.{RigState, counted}
use Rattle.history.specs.Calls.{Request, reset, slot, dwell, cut, power_up, Reply, presence_is, bit_is, done, refused_with, listed, row_is, judged_as, serve, run_all}

-- R reset, 0 and 1 slot, D dwell, C cut with mask 0, P power-up
abbrev pub requested : ℕ → Option Request
requested letter =
    cond (letter == 0x52) (Some reset)
    (cond (letter == 0x30) (Some (slot false))
    (cond (letter == 0x31) (Some (slot true))
    (cond (letter == 0x44) (Some dwell)
    (cond (letter == 0x43) (Some (cut 0))
    (cond (letter == 0x50) (Some power_up) None)))))

-- p or - for a reset, the bit for a slot, a dot where there is no answer, ! for a refusal; ? for the replies of jobs, which no letter asks
abbrev pub printed : Reply → ℕ
printed (presence_is present) = cond present 0x70 0x2D
printed (bit_is b) = cond b 0x31 0x30
printed done = 0x2E
printed (refused_with n) = 0x21
printed (listed a) = 0x3F
printed (row_is a) = 0x3F
printed (judged_as v) = 0x3F

-- any other byte prints ? and asks nothing
abbrev pub obeyed : Option Request → RigState → RigState × ℕ
obeyed None r = (r, 0x3F)
obeyed (Some q) r = ((serve q r).0, printed (serve q r).1)

abbrev pub script : ℕ → RigState → RigState × ℕ
script letter r = obeyed (requested letter) r

abbrev pub script_all : List ℕ → RigState → RigState × List ℕ
script_all letters r = run_all script letters r

-- what a rig has counted then: a step more for a dwell, and for a reset or a slot unless the line was busy; no letter asks for a job
abbrev pub count_after : Option Request → RigState → ℕ → ℕ
count_after (Some reset) r n = cond (any_busy r.line) n (counted n)
count_after (Some (slot b)) r n = cond (any_busy r.line) n (counted n)
count_after (Some dwell) r n = counted n
count_after asked r n = n

-- and after a list of letters
abbrev pub count_all : List ℕ → RigState → ℕ → ℕ
count_all [] r n = n
count_all (letter ∷ letters) r n = count_all letters (script letter r).0 (count_after (requested letter) r n)
