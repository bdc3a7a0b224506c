-- Lines are printed, one after another.
use Rattle.std.proofs.Common.{◌≡◌, Bool, true, false, ℕ, ◌+◌, ◌≤◌, ◌<◌, ◌^◌, List, [], ◌∷◌, ◌++◌, length, Option, None, Result, Ok, Err, refl, sym, ap, subst, ◌∙◌, arith, inl, inr, append_assoc, append-nil, length-append}
use Rattle.std.specs.Io.KnownBytes.{Appends, Keeps}
use Rattle.xa_output.proofs.Pieces.{appends_both, keeps_appends, nothing_appended}
use Rattle.xa_log.specs.declared.fault.OpenFault.{OpenFault}
use Rattle.xa_log.specs.declared.fault.OpenFault.TheVariants as preamble
use Rattle.xa_log.specs.Believed.Chain.{Rests, format_in, text}
use Rattle.xa_log.specs.Believed.Damage.{is_damaged}
use Rattle.std.specs.Prelude.{Vec}
use Rattle.std.specs.declared.alloc.Global.{Global}
use Rattle.xa_log.specs.Reading.{Explains, bodies_of}
use Rattle.xa_log.proofs.Again.{fits_of}
use Rattle.xa_log.specs.Reading as reading
use Rattle.xa_scan.specs.declared.fault.ScanFault.{ScanFault}
use Rattle.xa_scan.specs.declared.fault.ScanFault.TheVariants.{Memory, Write, Log, Damaged}
use Rattle.xa_scan.specs.declared.format.Format.{Format}
use Rattle.xa_scan.specs.Faults.{damage_behind, ended, fault_of}
use Rattle.xa_scan.specs.Lines.{behind, end_line, line_at, lines_from}
use Rattle.xa_limits.specs.declared.TheConstants.{FIRST_OFFSET, MOST_LOG}
use Rattle.xa_scan.specs.Scans.{IsFound, IsLogOf, Prints, PrintsLine, PrintsLines, Scans}
use Rattle.xa_scan.proofs.Offsets.{behind_both, behind_grows, lines_both, lines_one, offsets_in_the_file}

-- some lines were printed, and the next one's offset is this
abbrev pub Printed : Format → List (List ℕ) → List (List ℕ) → ℕ → Option (List ℕ) → Option (List ℕ) → Type 0
Printed format bodies rest offset old new =
    (printed : List (List ℕ)) × (bodies ≡ printed ++ rest) × (offset ≡ behind FIRST_OFFSET printed) × Appends old new (lines_from format FIRST_OFFSET printed)

pub none_printed : (format : Format) (bodies : List (List ℕ)) (old : Option (List ℕ)) → Printed format bodies bodies FIRST_OFFSET old old
none_printed format bodies old = ([], refl, refl, nothing_appended old)

pub one_printed : {X : Type 0} (format : Format) (x : X) (bodies rest others : List (List ℕ)) (body : List ℕ) (offset : ℕ) (text : List ℕ) (old mid new : Option (List ℕ)) →
    Printed format bodies rest offset old mid → rest ≡ body ∷ others → Appends mid new text → PrintsLine {X = X} (Ok x) (line_at format offset body) text →
    Printed format bodies others (offset + (36 + length body)) old new
one_printed format x bodies rest others body offset text old mid new (printed, split, is, before) cut now line = (
  printed ++ body ∷ [],
  split ∙ (ap (λ (l : List (List ℕ)). printed ++ l) cut ∙ sym (append_assoc printed (body ∷ []) others)),
  ap (λ (n : ℕ). n + (36 + length body)) is ∙ sym (behind_both FIRST_OFFSET printed (body ∷ [])),
  subst (λ (t : List ℕ). Appends old new t)
      (ap (λ (t : List ℕ). lines_from format FIRST_OFFSET printed ++ t) (line ∙ (ap (λ (n : ℕ). line_at format n body) is ∙ sym (lines_one format (behind FIRST_OFFSET printed) body)))
      ∙ sym (lines_both format FIRST_OFFSET printed (body ∷ [])))
      (appends_both old mid new (lines_from format FIRST_OFFSET printed) text before now),
)

-- the next offset is within the log
pub next_within : (format : Format) (bodies rest others : List (List ℕ)) (body : List ℕ) (offset : ℕ) (old new : Option (List ℕ)) →
    Printed format bodies rest offset old new → rest ≡ body ∷ others → offset + (36 + length body) ≤ behind FIRST_OFFSET bodies
next_within format bodies rest others body offset old new (printed, split, is, before) cut =
    let whole : behind FIRST_OFFSET bodies ≡ behind (behind FIRST_OFFSET printed) (body ∷ others) =
    ap (λ (l : List (List ℕ)). behind FIRST_OFFSET l) (split ∙ ap (λ (l : List (List ℕ)). printed ++ l) cut) ∙ behind_both FIRST_OFFSET printed (body ∷ others) in
    omega (arith, whole, is, behind_grows (behind FIRST_OFFSET printed + (36 + length body)) others)

-- a line failed
pub line_failed : (X Y : Type 0) (format : Format) (fault : ScanFault) (bodies rest others : List (List ℕ)) (body : List ℕ) (offset : ℕ) (text : List ℕ) (old mid new : Option (List ℕ)) →
    Printed format bodies rest offset old mid → rest ≡ body ∷ others → Appends mid new text → PrintsLine {X = X} (Err fault) (line_at format offset body) text →
    (all : List ℕ) × Appends old new all × PrintsLines {X = Y} format (Err fault) bodies all
line_failed X Y format Memory bodies rest others body offset text old mid new (printed, split, is, before) cut now line = (
  lines_from format FIRST_OFFSET printed ++ text,
  appends_both old mid new (lines_from format FIRST_OFFSET printed) text before now,
  (printed, rest, split, ap (λ (t : List ℕ). lines_from format FIRST_OFFSET printed ++ t) line ∙ append-nil (lines_from format FIRST_OFFSET printed)),
)
line_failed X Y format Write bodies rest others body offset text old mid new (printed, split, is, before) cut now (more, some, line) =
    let lines = lines_from format FIRST_OFFSET printed in
    let behind_it = lines_from format (offset + (36 + length body)) others ++ end_line format (behind FIRST_OFFSET bodies) in
    let whole : lines_from format FIRST_OFFSET bodies ≡ lines ++ (line_at format offset body ++ lines_from format (offset + (36 + length body)) others) =
    ap (λ (l : List (List ℕ)). lines_from format FIRST_OFFSET l) (split ∙ ap (λ (l : List (List ℕ)). printed ++ l) cut) ∙ (lines_both format FIRST_OFFSET printed (body ∷ others)
    ∙ ap (λ (n : ℕ). lines ++ (line_at format n body ++ lines_from format (n + (36 + length body)) others)) (sym is)) in (
      lines ++ text,
      appends_both old mid new lines text before now,
      (
        more ++ behind_it,
        ap (λ (l : List ℕ). l ++ end_line format (behind FIRST_OFFSET bodies)) whole
            ∙ (append_assoc lines (line_at format offset body ++ lines_from format (offset + (36 + length body)) others) (end_line format (behind FIRST_OFFSET bodies))
            ∙ (ap (λ (l : List ℕ). lines ++ l) (append_assoc (line_at format offset body) (lines_from format (offset + (36 + length body)) others) (end_line format (behind FIRST_OFFSET bodies)))
            ∙ (ap (λ (l : List ℕ). lines ++ (l ++ behind_it)) line
            ∙ (ap (λ (l : List ℕ). lines ++ l) (append_assoc text more behind_it)
            ∙ sym (append_assoc lines text (more ++ behind_it)))))),
      ),
    )
line_failed X Y format (Log fault) bodies rest others body offset text old mid new printed cut now line = absurd line
line_failed X Y format (Damaged number begin) bodies rest others body offset text old mid new printed cut now line = absurd line

-- the line of the end was written, or it failed
pub end_printed : {X : Type 0} (format : Format) (end : Result X ScanFault) (bodies rest : List (List ℕ)) (offset at : ℕ) (text : List ℕ) (old mid new : Option (List ℕ)) →
    Printed format bodies rest offset old mid → rest ≡ [] → at ≡ behind FIRST_OFFSET bodies → Appends mid new text → PrintsLine end (end_line format at) text →
    (all : List ℕ) × Appends old new all × PrintsLines format end bodies all
end_printed format (Ok x) bodies rest offset at text old mid new (printed, split, is, before) none end now line =
    let all : bodies ≡ printed = split ∙ (ap (λ (l : List (List ℕ)). printed ++ l) none ∙ append-nil printed) in (
      lines_from format FIRST_OFFSET printed ++ text,
      appends_both old mid new (lines_from format FIRST_OFFSET printed) text before now,
      ap (λ (l : List (List ℕ)). lines_from format FIRST_OFFSET l ++ text) (sym all) ∙ ap (λ (l : List ℕ). lines_from format FIRST_OFFSET bodies ++ l) (line ∙ ap (end_line format) end),
    )
end_printed format (Err Memory) bodies rest offset at text old mid new (printed, split, is, before) none end now line = (
  lines_from format FIRST_OFFSET printed ++ text,
  appends_both old mid new (lines_from format FIRST_OFFSET printed) text before now,
  (printed, rest, split, ap (λ (t : List ℕ). lines_from format FIRST_OFFSET printed ++ t) line ∙ append-nil (lines_from format FIRST_OFFSET printed)),
)
end_printed format (Err Write) bodies rest offset at text old mid new (printed, split, is, before) none end now (more, some, line) =
    let all : bodies ≡ printed = split ∙ (ap (λ (l : List (List ℕ)). printed ++ l) none ∙ append-nil printed) in (
      lines_from format FIRST_OFFSET printed ++ text,
      appends_both old mid new (lines_from format FIRST_OFFSET printed) text before now,
      (
        more,
        ap (λ (l : List ℕ). lines_from format FIRST_OFFSET bodies ++ l) (ap (end_line format) (sym end) ∙ line)
            ∙ (ap (λ (l : List (List ℕ)). lines_from format FIRST_OFFSET l ++ (text ++ more)) all ∙ sym (append_assoc (lines_from format FIRST_OFFSET printed) text more)),
      ),
    )
end_printed format (Err (Log fault)) bodies rest offset at text old mid new printed none end now line = absurd line
end_printed format (Err (Damaged number begin)) bodies rest offset at text old mid new printed none end now line = absurd line

-- the flush after the lines was answered
prints_ended : {X E : Type 0} (format : Format) (printed : Result X ScanFault) (flushed : Result X E) (damaged : Bool) (count end : ℕ) (bodies : List (List ℕ)) (text : List ℕ) → PrintsLines format printed bodies text →
    Prints format (ended printed flushed (damage_behind damaged count end)) bodies text
prints_ended format (Ok x) (Ok y) true count end bodies text h = h
prints_ended format (Ok x) (Ok y) false count end bodies text h = h
prints_ended format (Ok x) (Err e) damaged count end bodies text h = ([], sym h ∙ sym (append-nil text))
prints_ended format (Err Memory) flushed damaged count end bodies text h = h
prints_ended format (Err Write) flushed damaged count end bodies text h = h
prints_ended format (Err (Log fault)) flushed damaged count end bodies text h = absurd h
prints_ended format (Err (Damaged number begin)) flushed damaged count end bodies text h = absurd h

found_ended : {X E : Type 0} (format : Format) (printed : Result X ScanFault) (flushed : Result X E) (damaged : Bool) (count end : ℕ) (file : List ℕ) (bodies : List (List ℕ)) (text : List ℕ) → PrintsLines format printed bodies text →
    IsLogOf bodies file → damaged ≡ is_damaged file → count ≡ length bodies → end ≡ behind FIRST_OFFSET bodies → IsFound (ended printed flushed (damage_behind damaged count end)) file bodies
found_ended format (Ok x) (Ok y) true count end file bodies text h log is many last = (log, sym is, ap (λ (n : ℕ). n + 1) many, last)
found_ended format (Ok x) (Ok y) false count end file bodies text h log is many last = (log, sym is)
found_ended format (Ok x) (Err e) damaged count end file bodies text h log is many last = log
found_ended format (Err Memory) flushed damaged count end file bodies text h log is many last = inr log
found_ended format (Err Write) flushed damaged count end file bodies text h log is many last = log
found_ended format (Err (Log fault)) flushed damaged count end file bodies text h log is many last = absurd h
found_ended format (Err (Damaged number begin)) flushed damaged count end file bodies text h log is many last = absurd h

pub scanned : {X E : Type 0} (format : Format) (honest : Type 0) (printed : Result X ScanFault) (flushed : Result X E) (damaged : Bool) (count end : ℕ) (file : List ℕ) (bodies : List (List ℕ)) (text : List ℕ) (old mid new : Option (List ℕ)) →
    (honest → IsLogOf bodies file × (damaged ≡ is_damaged file)) → count ≡ length bodies → end ≡ behind FIRST_OFFSET bodies → Appends old mid text → Keeps mid new → PrintsLines format printed bodies text →
    Scans format honest (ended printed flushed (damage_behind damaged count end)) file old new
scanned format honest printed flushed damaged count end file bodies text old mid new read many last written kept prints = record {
  bodies = bodies;
  text = text;
  found = λ yes. found_ended format printed flushed damaged count end file bodies text prints (read yes).0 (read yes).1 many last;
  written = subst (λ (t : List ℕ). Appends old new t) (append-nil text) (appends_both old mid new text [] written (keeps_appends mid new kept));
  printed = prints_ended format printed flushed damaged count end bodies text prints;
}

-- there is no log, or no memory
pub unread : (X : Type 0) (format : Format) (honest : Type 0) (fault : OpenFault) (file : List ℕ) (output : Option (List ℕ)) → (honest → Explains fault (reading.fault_of MOST_LOG file)) →
    Scans {X = X} format honest (Err (fault_of fault)) file output output
unread X format honest preamble.Memory file output why = record {
  bodies = [];
  text = [];
  found = λ yes. inl refl;
  written = nothing_appended output;
  printed = ([], [], refl, refl);
}
unread X format honest preamble.NotALog file output why = record { bodies = []; text = []; found = why; written = nothing_appended output; printed = refl }
unread X format honest preamble.TooNew file output why = record { bodies = []; text = []; found = why; written = nothing_appended output; printed = refl }
unread X format honest preamble.TooLong file output why = record { bodies = []; text = []; found = why; written = nothing_appended output; printed = refl }
unread X format honest preamble.Damaged file output why = record { bodies = []; text = []; found = why; written = nothing_appended output; printed = refl }
unread X format honest preamble.Device file output why = record { bodies = []; text = []; found = why; written = nothing_appended output; printed = refl }

-- a file that is a log has no more bytes than a log may have
pub no_longer : (file : List ℕ) (bodies : List (List ℕ)) → reading.fault_of MOST_LOG file ≡ None → Rests (format_in file) bodies file → behind FIRST_OFFSET bodies ≤ MOST_LOG
no_longer file bodies none rests =
    let at : behind FIRST_OFFSET bodies ≡ length (text (format_in file) bodies) = offsets_in_the_file (format_in file) bodies in
    let whole : length file ≡ length (text (format_in file) bodies) + length rests.rest = ap length rests.split ∙ length-append (text (format_in file) bodies) rests.rest in
    let short : length file ≤ MOST_LOG = fits_of MOST_LOG file none in
    omega (arith, at, whole, short)

-- the end of these bodies is no number of 64 bits
pub past_limit : (bodies rest others : List (List ℕ)) (body : List ℕ) (offset : ℕ) → behind FIRST_OFFSET bodies ≡ behind offset rest → rest ≡ body ∷ others →
    2 ^ 64 ≤ offset + (36 + length body) → MOST_LOG < behind FIRST_OFFSET bodies
past_limit bodies rest others body offset same cut past =
    let all : behind offset rest ≡ behind (offset + (36 + length body)) others = ap (λ (l : List (List ℕ)). behind offset l) cut in
    omega (arith, same, all, past, behind_grows (offset + (36 + length body)) others)

pub none_left : (bodies : List (Vec ℕ Global)) → length bodies ≡ 0 → bodies_of bodies ≡ []
none_left [] none = refl
none_left (body ∷ bodies) none = absurd (omega (arith, none))
