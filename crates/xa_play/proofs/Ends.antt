-- How a whole run ends.
use Rattle.std.proofs.Common.{◌≡◌, ◌⊎◌, ℕ, ◌≤◌, ◌<◌, ◌==◌, List, [], ◌∷◌, length, Option, Some, None, IfSome, Result, Ok, Err, refl, subst, sym, ap, arith, inl, inr, append-nil}
use Rattle.std.specs.Prelude.{IfErr, IsErrOf, unwrap_or}
use Rattle.std.specs.Io.KnownBytes.{Appends, Keeps}
use Rattle.std.proofs.lemmas.List.{length-map}
use Rattle.std.proofs.lemmas.List.Splits.{length-slice_split}
use Rattle.xa_model.specs.History.{fresh}
use Rattle.xa_disk.specs.declared.memory.MemDisk.{MemDisk}
use Rattle.xa_manager.specs.declared.manager.Manager.{Manager as TheManager}
use Rattle.xa_xid.specs.Triple.{Triple}
use Rattle.xa_script.specs.Lines as lines
use Rattle.xa_script.specs.Parts.{parts}
use Rattle.xa_script.specs.declared.line.Line.{Line}
use Rattle.xa_play.specs.declared.fault.PlayFault.{PlayFault}
use Rattle.xa_play.specs.declared.fault.PlayFault.TheVariants.{Memory, Setting, TooLong, Read, Write, Manager}
use Rattle.xa_play.specs.Faults.{end_of}
use Rattle.xa_play.specs.Disks.{StandsFor, FilesStand}
use Rattle.xa_play.specs.Runs.{Run, IsLawful, at_start}
use Rattle.xa_play.specs.Plays.{IsTooLong, Plays, WasRead, PlaysTo, Prints, Stops, lines_of}
use Rattle.xa_play.specs.Played.{IsLinesFault, IsOpeningFault, ScriptEnds}
use Rattle.xa_play.proofs.Lawful.{run_at_start}
use Rattle.xa_output.proofs.Pieces.{appends_both, keeps_appends, nothing_appended}

given : (input : Option (List ℕ)) → IfSome input (λ bytes. unwrap_or input [] ≡ bytes)
given None = tt
given (Some bytes) = refl

some_line : (xid_of : List ℕ → Option Triple) (script : List ℕ) → 0 < length (lines_of xid_of script)
some_line xid_of script =
    let count : length (lines_of xid_of script) ≡ length (parts 10 script) = length-map (parts 10 script) (lines.line_of xid_of) in
    omega (arith, count, length-slice_split (λ b. b == 10) script)

stops_at : (name : List ℕ) (n : ℕ) (run : Run) (lines : List Line) → 0 < length lines → PlaysTo name n IsLawful (Stops name n) run lines []
stops_at name n run [] some = absurd (omega (arith, some))
stops_at name n run (line ∷ lines) some = inl refl

-- nothing was played, so no line was
pub unplayed : (X : Type 0) (fault : PlayFault) (name : List ℕ) (log_bytes : ℕ) (input output : Option (List ℕ)) → (fault ≡ Write → ⊥) → Plays {X = X} IsLawful name log_bytes (Err fault) input output output
unplayed X Write name log_bytes input output h = absurd (h refl)
unplayed X Memory name log_bytes input output h = record {
  script = unwrap_or input [];
  text = [];
  given = given input;
  short = λ no. absurd no;
  written = nothing_appended output;
  printed = λ xid_of reads. stops_at name log_bytes (at_start (fresh name log_bytes)) (lines_of xid_of (unwrap_or input [])) (some_line xid_of (unwrap_or input []));
}
unplayed X (Manager fault) name log_bytes input output h = record { script = unwrap_or input []; text = []; given = given input; short = λ none. absurd none; written = nothing_appended output; printed = λ xid_of reads. inl refl }
unplayed X Setting name log_bytes input output h = record { script = unwrap_or input []; text = []; given = given input; short = λ none. absurd none; written = nothing_appended output; printed = λ xid_of reads. refl }
unplayed X TooLong name log_bytes input output h = record { script = unwrap_or input []; text = []; given = given input; short = λ none. absurd none; written = nothing_appended output; printed = λ xid_of reads. refl }
unplayed X Read name log_bytes input output h = record { script = unwrap_or input []; text = []; given = given input; short = λ none. absurd none; written = nothing_appended output; printed = λ xid_of reads. refl }

-- what a script's reading fails with comes before it was read
pub unread : (X : Type 0) (fault : PlayFault) → (fault ≡ Memory) ⊎ (fault ≡ Read) ⊎ (fault ≡ TooLong) → WasRead {X = X} (Err fault) → ⊥
unread X Write (inl e) read = cc e
unread X Write (inr (inl e)) read = cc e
unread X Write (inr (inr e)) read = cc e
unread X Memory e read = read
unread X (Manager fault) e read = read
unread X Setting e read = read
unread X TooLong e read = read
unread X Read e read = read

-- an opening's faults come before a script is read
pub unopened : (X : Type 0) (fault : PlayFault) → (fault ≡ Setting) ⊎ IsOpeningFault fault → WasRead {X = X} (Err fault) → ⊥
unopened X Write (inl e) read = cc e
unopened X Write (inr (inl e)) read = cc e
unopened X Write (inr (inr refused)) read = let e = refused.1 in cc
unopened X Memory e read = read
unopened X (Manager fault) e read = read
unopened X Setting e read = read
unopened X TooLong e read = read
unopened X Read e read = read

pub whichever : {A : Type 0} (o : Option A) (P : A → Type 0) → ((x : A) → P x) → IfSome o P
whichever None P h = tt
whichever (Some x) P h = h x

-- which fault an end has

pub fault_is : (X : Type 0) (fault other : PlayFault) → IsErrOf {T = X} (Err fault) other → fault ≡ other
fault_is X fault other e = cc

-- settings that an opening refused
pub refused_setting : (X M : Type 0) (fault : PlayFault) (Bad : Type 0) → (IsErrOf {T = M} (Err fault) Setting → Bad) × (Bad → IsErrOf {T = M} (Err fault) Setting) →
    (IsErrOf {T = X} (Err fault) Setting → Bad) × (Bad → IsErrOf {T = X} (Err fault) Setting)
refused_setting X M fault Bad h = (λ e. h.0 (ap Err (fault_is X fault Setting e)), λ bad. ap Err (fault_is M fault Setting (h.1 bad)))

-- settings that were taken
pub taken_setting : (X M : Type 0) (m : M) (end : Result X PlayFault) (Bad : Type 0) → (IsErrOf end Setting → ⊥) → (Bad → IsErrOf {E = PlayFault} (Ok m) Setting) →
    (IsErrOf end Setting → Bad) × (Bad → IsErrOf end Setting)
taken_setting X M m end Bad other h = (λ e. absurd (other e), λ bad. let e = h bad in cc)

pub opening_is_not_long : (X : Type 0) (fault : PlayFault) → (fault ≡ Setting) ⊎ IsOpeningFault fault → IsErrOf {T = X} (Err fault) TooLong → ⊥
opening_is_not_long X fault (inl setting) e = cc
opening_is_not_long X fault (inr (inl memory)) e = cc
opening_is_not_long X fault (inr (inr refused)) e = let is = refused.1 in cc

pub script_is_no_setting : (X : Type 0) (fault : PlayFault) → (fault ≡ Memory) ⊎ (fault ≡ Read) ⊎ (fault ≡ TooLong) → IsErrOf {T = X} (Err fault) Setting → ⊥
script_is_no_setting X fault (inl memory) e = cc
script_is_no_setting X fault (inr (inl read)) e = cc
script_is_no_setting X fault (inr (inr long)) e = cc

-- a play whose script was read ends in no other fault than its lines do
lines_end_in : (X E : Type 0) (played : Result X PlayFault) (flushed : Result X E) → IfErr played IsLinesFault → (fault : PlayFault) → IsErrOf (end_of played flushed) fault → IsLinesFault fault
lines_end_in X E (Err error) flushed h fault e = subst (λ f. IsLinesFault f) (fault_is X error fault e) h
lines_end_in X E (Ok x) (Ok y) h fault e = cc
lines_end_in X E (Ok x) (Err error) h fault e = inl (sym (fault_is X Write fault e))

not_of_lines : (fault : PlayFault) → IsLinesFault fault → (fault ≡ Setting) ⊎ (fault ≡ TooLong) ⊎ (fault ≡ Read) → ⊥
not_of_lines fault (inl write) (inl e) = cc
not_of_lines fault (inl write) (inr (inl e)) = cc
not_of_lines fault (inl write) (inr (inr e)) = cc
not_of_lines fault (inr (inl memory)) (inl e) = cc
not_of_lines fault (inr (inl memory)) (inr (inl e)) = cc
not_of_lines fault (inr (inl memory)) (inr (inr e)) = cc
not_of_lines fault (inr (inr refused)) (inl e) = let is = refused.1 in cc
not_of_lines fault (inr (inr refused)) (inr (inl e)) = let is = refused.1 in cc
not_of_lines fault (inr (inr refused)) (inr (inr e)) = let is = refused.1 in cc

pub lines_are_played : (X E : Type 0) (played : Result X PlayFault) (flushed : Result X E) → IfErr played IsLinesFault → (fault : PlayFault) → (fault ≡ Setting) ⊎ (fault ≡ TooLong) ⊎ (fault ≡ Read) →
    IsErrOf (end_of played flushed) fault → ⊥
lines_are_played X E played flushed h fault other e = not_of_lines fault (lines_end_in X E played flushed h fault e) other

pub script_is_short : (input : Option (List ℕ)) (script : List ℕ) (P : List ℕ → Type 0) → IfSome input (λ bytes. script ≡ bytes) → length script ≤ 16_777_216 → IfSome input (λ bytes. IsTooLong bytes → P bytes)
script_is_short None script P all limit = tt
script_is_short (Some bytes) script P all limit = λ long.
    let same : length script ≡ length bytes = ap length all in
    absurd (omega arith)

prints_end : (X E : Type 0) (name : List ℕ) (n : ℕ) (played : Result X PlayFault) (flushed : Result X E) (run : Run) (lines : List Line) (text : List ℕ) → Prints name n IsLawful played run lines text
    → Prints name n IsLawful (end_of played flushed) run lines text
prints_end X E name n (Err fault) flushed run lines text h = h
prints_end X E name n (Ok x) (Ok y) run lines text h = h
prints_end X E name n (Ok x) (Err error) run lines text h = inr h

-- the script was played, whatever the flush was answered
pub ran : (files : FilesStand) (X E : Type 0) (played : Result X PlayFault) (flushed : Result X E) (m : TheManager MemDisk) (name : List ℕ) (log_bytes : ℕ) (input old mid new : Option (List ℕ)) (script text : List ℕ) →
    IfSome input (λ bytes. script ≡ bytes) → length script ≤ 16_777_216 → Appends old mid text → Keeps mid new →
    ScriptEnds name log_bytes played m script text → StandsFor m (fresh name log_bytes) → Plays IsLawful name log_bytes (end_of played flushed) input old new
ran files X E played flushed m name log_bytes input old mid new script text known short written kept ends stands = record {
  script = script;
  text = text;
  given = known;
  short = λ read. short;
  written = subst (λ (t : List ℕ). Appends old new t) (append-nil text) (appends_both old mid new text [] written (keeps_appends mid new kept));
  printed = λ xid_of reads. prints_end X E name log_bytes played flushed (at_start (fresh name log_bytes)) (lines_of xid_of script) text
      (ends xid_of reads (at_start (fresh name log_bytes)) (stands, refl, run_at_start (fresh name log_bytes) (files m (fresh name log_bytes) stands).1));
}
