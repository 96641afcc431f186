-- A stream of letters: what a reader gives is played, and a writer gets what is printed for it.
use Rattle.std.specs.Prelude.{◌≡◌, ℕ, List, [], ◌∷◌, ◌++◌, Option}
use Rattle.std.specs.Io.{StartsWith}
use Rattle.std.specs.Io.KnownBytes.{Consumes, Appends, IsAtEnd}
use Rattle.rig.specs.Rigs.{RigState}
use Rattle.letters.specs.Letters.{script_all}

-- the writer got the first bytes of these
abbrev pub WritesFront : Option (List ℕ) → Option (List ℕ) → List ℕ → Type 0
WritesFront held held' bytes = (written : List ℕ) × StartsWith bytes written × Appends held held' written

abbrev pub newline : List ℕ
newline = 0x0A ∷ []

-- what is written for letters, and a newline after the last
abbrev pub answers_to : List ℕ → RigState → List ℕ
answers_to letters r = (script_all letters r).1 ++ newline

-- from what the reader had, the rig and the writer to what they are now: all letters are played and answered
abbrev pub AnswersAll : Option (List ℕ) → Option (List ℕ) → RigState → RigState → Option (List ℕ) → Option (List ℕ) → Type 0
AnswersAll left left' r r' held held' =
    (letters : List ℕ) × Consumes left left' letters × IsAtEnd left' × (r' ≡ (script_all letters r).0) × Appends held held' (answers_to letters r)

-- no letter is lost: each that was taken is played, and the writer got the first bytes of what is written for them
abbrev pub AnswersFront : Option (List ℕ) → Option (List ℕ) → RigState → RigState → Option (List ℕ) → Option (List ℕ) → Type 0
AnswersFront left left' r r' held held' =
    (letters : List ℕ) × Consumes left left' letters × (r' ≡ (script_all letters r).0) × WritesFront held held' (answers_to letters r)
