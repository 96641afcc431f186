-- Letters that arrive in parts: what is played and written for each part is what is played and written for all.
use Rattle.std.proofs.Common.{◌≡◌, ℕ, ◌≤◌, List, ◌++◌, length, take, min, Option, sym, ap, ◌∙◌, subst, arith, append_assoc, length-append}
use Rattle.std.proofs.lemmas.List.{take-append-le, take_all, length-take}
use Rattle.std.proofs.Math.Seq.{take-append-add}
use Rattle.std.specs.Io.{StartsWith}
use Rattle.std.specs.Io.KnownBytes.{Consumes, Appends}
use Rattle.std.proofs.KnownBytes.{Consumes-trans, Appends-trans}
use Rattle.std.proofs.Transfers.{starts_with_length}
use Rattle.rig.specs.Rigs.{RigState}
use Rattle.history.proofs.Runs.{run_append}
use Rattle.letters.specs.Letters.{script, script_all}
use Rattle.letters.specs.Stream.{newline, answers_to, WritesFront, AnswersFront}

-- all letters that were taken are played, and the writer has what is printed for them
abbrev pub Answered : Option (List ℕ) → Option (List ℕ) → RigState → RigState → Option (List ℕ) → Option (List ℕ) → Type 0
Answered left left' r r' held held' =
    (letters : List ℕ) × Consumes left left' letters × (r' ≡ (script_all letters r).0) × Appends held held' (script_all letters r).1

answers_append : (ps qs : List ℕ) (r : RigState) → answers_to (ps ++ qs) r ≡ (script_all ps r).1 ++ answers_to qs (script_all ps r).0
answers_append ps qs r = ap (λ t. t.1 ++ newline) (run_append script ps qs r) ∙ append_assoc (script_all ps r).1 (script_all qs (script_all ps r).0).1 newline

starts_further : (before bytes written : List ℕ) → StartsWith bytes written → StartsWith (before ++ bytes) (before ++ written)
starts_further before bytes written h =
    ap (λ n. take n (before ++ bytes)) (length-append before written) ∙ take-append-add before bytes (length written) ∙ ap (λ l. before ++ l) h

-- what begins with these bytes does so too where more follows
pub starts_before : (bytes more written : List ℕ) → StartsWith bytes written → StartsWith (bytes ++ more) written
starts_before bytes more written h = take-append-le (length written) bytes more (starts_with_length bytes written h) ∙ h

-- a part is played whole, for there are as many places as it has room for letters
pub whole_part : (input output printed : List ℕ) (arrived answered : ℕ) (s t : RigState) → length input ≡ length output
    → answered ≡ min (length (take arrived input)) (length output)
    → ◌≡◌ {A = RigState × List ℕ} (t, printed) (script_all (take answered (take arrived input)) s)
    → ◌≡◌ {A = RigState × List ℕ} (t, printed) (script_all (take arrived input) s)
whole_part input output printed arrived answered s t same count told =
    let all : length (take arrived input) ≤ answered = omega (arith, length-take arrived input) in
    told ∙ ap (λ l. script_all l s) (take_all answered (take arrived input) all)

module _ (a b c h k m : Option (List ℕ)) {r s t : RigState} where
  -- a part more
  pub answered_more : (more printed : List ℕ) → Answered a b r s h k → Consumes b c more → ◌≡◌ {A = RigState × List ℕ} (t, printed) (script_all more s) → Appends k m printed
      → Answered a c r t h m
  answered_more more printed (letters, taken, played, before) taken' played' after =
      let joined = run_append script letters more r in
      let e = played' ∙ ap (script_all more) played in (
        letters ++ more,
        Consumes-trans a b c letters more taken taken',
        ap (λ v. v.0) e ∙ sym (ap (λ v. v.0) joined),
        subst (Appends h m) (ap (λ v. (script_all letters r).1 ++ v.1) e ∙ sym (ap (λ v. v.1) joined)) (Appends-trans h k m _ _ before after),
      )

  -- a part more, of which the writer got the first bytes
  pub answered_front : (more : List ℕ) → Answered a b r s h k → Consumes b c more → t ≡ (script_all more s).0 → WritesFront k m (answers_to more s) → AnswersFront a c r t h m
  answered_front more (letters, taken, played, before) taken' played' (written, front, wrote) = (
    letters ++ more,
    Consumes-trans a b c letters more taken taken',
    played' ∙ ap (λ v. (script_all more v).0) played ∙ sym (ap (λ v. v.0) (run_append script letters more r)),
    (
      (script_all letters r).1 ++ written,
      subst (λ l. StartsWith l ((script_all letters r).1 ++ written)) (ap (λ v. (script_all letters r).1 ++ answers_to more v) played ∙ sym (answers_append letters more r))
          (starts_further (script_all letters r).1 (answers_to more s) written front),
      Appends-trans h k m _ _ before wrote,
    ),
  )
