-- A look at a log that stands finds it in the file where it was, and so in the format that it had.
use Rattle.std.proofs.Common.{◌≡◌, ℕ, ◌+◌, zero, suc, Bool, true, false, not, cond, ◌&&◌, ◌||◌, ◌==◌, List, [], ◌∷◌, length, take, drop, Result, Ok, Err, refl, ap, sym, ◌∙◌, subst, arith}
use Rattle.std.specs.Prelude.{slice_index, map, nat_lt}
use Rattle.std.proofs.lemmas.Bool.Decides.{nat_tests}
use Rattle.xa_disk.specs.declared.disk.Disk.{Ghosts}
use Rattle.xa_record.specs.Spelling.{spelled}
use Rattle.xa_record.specs.declared.record.Record.{Record}
use Rattle.xa_log.specs.Believed.Chain.{format_number, newest, start, format_in, body_at, bodies_from, digest_at, rest_at, is_record, logged, Rests}
use Rattle.xa_log.specs.Believed.Pair.{number_in, generation, is_nil, beats, IsCalm, CalmTears}
use Rattle.xa_log.specs.Believed.TwoFiles.{Pair, first_of, second_of}
use Rattle.xa_log.specs.declared.format.Format.{Format}
use Rattle.xa_log.specs.declared.format.Format.TheVariants.{One, Two}
use Rattle.xa_log.specs.Believed.LogView.{LogView}
use Rattle.xa_log.proofs.Records.{rests_logged}
use Rattle.xa_log.specs.Believed.LogStates.{LogState, Whole, LostAppend, LostCheckpoint, IsIn, MayFind}
use Rattle.xa_model.specs.Invariants.Backing.{Backs}
use Rattle.xa_model.specs.Durable.{Durable}
use Rattle.xa_model.specs.Invariants.Loggable.{IsRecoverable}
use Rattle.xa_model.specs.State.{State}
use Rattle.xa_manager.specs.Rereading.{Found}
use Rattle.xa_manager.proofs.Fates.{fate_recoverable}

-- ---- formats, by their numbers and by a file's first bytes

pub numbered_newest : (f : Format) → format_number f ≡ format_number newest → f ≡ newest
numbered_newest One e = absurd (omega arith)
numbered_newest Two e = refl

last_digit : (f : Format) (bodies : List (List ℕ)) (file : List ℕ) → Rests f bodies file → slice_index file 7 ≡ 48 + format_number f
last_digit One bodies file r = ap (λ (x : List ℕ). slice_index x 7) r.split
last_digit Two bodies file r = ap (λ (x : List ℕ). slice_index x 7) r.split

same_number : (f g : Format) → format_number f ≡ format_number g → f ≡ g
same_number One One e = refl
same_number Two Two e = refl
same_number One Two e = absurd (omega arith)
same_number Two One e = absurd (omega arith)

-- a file is a log of one format alone
pub one_format : (f g : Format) (bodies others : List (List ℕ)) (file : List ℕ) → Rests f bodies file → Rests g others file → f ≡ g
one_format f g bodies others file r s =
    let one = last_digit f bodies file r in
    let two = last_digit g others file s in
    same_number f g (omega (arith, one, two))

-- ---- which of two files with the same bodies is current

starts : (f : Format) (m : ℕ) (prev x b : List ℕ) (bs : List (List ℕ)) → bodies_from f m prev x ≡ b ∷ bs → (is_record f prev x ≡ true) × (body_at x ≡ b)
starts f zero prev x b bs e = absurd (cc e)
starts f (suc m) prev x b bs e = by (is_record f prev x) refl e
  where
    by : (c : Bool) → is_record f prev x ≡ c → cond c (body_at x ∷ bodies_from f m (digest_at prev x) (rest_at x)) [] ≡ b ∷ bs → (is_record f prev x ≡ true) × (body_at x ≡ b)
    by true is e = (is, cc e)
    by false is e = absurd (cc e)

one_first : (ys : List (List ℕ)) (x : List ℕ) → take 1 ys ≡ x ∷ [] → (generation ys ≡ number_in x) × (is_nil ys ≡ false)
one_first [] x e = absurd (cc e)
one_first (y ∷ ys) x e = let same : y ≡ x = cc e in (ap number_in same, refl)

-- a file that is calm beside bodies, and has others, has as many of the same generation
tied : (stood : List (List ℕ)) (file : List ℕ) (bodies : List (List ℕ)) → IsCalm stood file → logged file ≡ bodies → is_nil bodies ≡ false → (generation stood ≡ generation bodies) × (is_nil stood ≡ false)
tied stood file [] calm is some = absurd (cc some)
tied stood file (b ∷ bs) calm is some =
    let s = starts (format_in file) (length file) (start (format_in file)) (drop 8 file) b bs is in
    let o = one_first stood (body_at (drop 8 file)) (calm.only s.0) in
    (o.0 ∙ ap number_in s.1, o.1)

neither : (a b c d : Bool) → a ≡ false → c ≡ false → (a || (b && (c || (false && d)))) ≡ true → ⊥
neither true b c d e k h = absurd (cc e)
neither false true true d e k h = absurd (cc k)
neither false true false d e k h = absurd (cc h)
neither false false c d e k h = absurd (cc h)

-- of two that tie the second one isn't
never_second : (mine other : List (List ℕ)) → generation other ≡ generation mine → is_nil other ≡ false → beats false mine other ≡ true → ⊥
never_second mine other same some wins =
    let less : nat_lt (generation other) (generation mine) ≡ false = grind (arith, nat_tests, same) in
    neither (nat_lt (generation other) (generation mine)) (generation other == generation mine) (is_nil other) (not (is_nil mine)) less some wins

module _ {D : Type 0} (disks : Ghosts D) (log log' : LogView D) (bodies stood : List (List ℕ)) (p : Pair disks bodies stood log) (q : Pair disks bodies (logged (disks.seen log'.other)) log')
    (tears : CalmTears disks.tears) (some : is_nil bodies ≡ false)
    (first : disks.seen (first_of log') ≡ disks.seen (first_of log)) (second : disks.seen (second_of log') ≡ disks.seen (second_of log)) where
  first_disk : (l : LogView D) (t : Bool) → l.on_first ≡ t → first_of l ≡ cond t l.disk l.other
  first_disk l t e = ap (λ (b : Bool). cond b l.disk l.other) e

  second_disk : (l : LogView D) (t : Bool) → l.on_first ≡ t → second_of l ≡ cond t l.other l.disk
  second_disk l t e = ap (λ (b : Bool). cond b l.other l.disk) e

  seen_first : (t u : Bool) → log.on_first ≡ t → log'.on_first ≡ u → disks.seen (cond u log'.disk log'.other) ≡ disks.seen (cond t log.disk log.other)
  seen_first t u e k = ap disks.seen (sym (first_disk log' u k)) ∙ first ∙ ap disks.seen (first_disk log t e)

  seen_second : (t u : Bool) → log.on_first ≡ t → log'.on_first ≡ u → disks.seen (cond u log'.other log'.disk) ≡ disks.seen (cond t log.other log.disk)
  seen_second t u e k = ap disks.seen (sym (second_disk log' u k)) ∙ second ∙ ap disks.seen (second_disk log t e)

  in_place : disks.seen log'.disk ≡ disks.seen log.disk → log'.format ≡ log.format
  in_place same = one_format log'.format log.format bodies bodies (disks.seen log.disk) (subst (λ (x : List ℕ). Rests log'.format bodies x) same q.current.file) p.current.file

  -- both files have these bodies where the current one is another
  old_logged : disks.seen log'.other ≡ disks.seen log.disk → logged (disks.seen log'.other) ≡ bodies
  old_logged same = ap (λ (x : List ℕ). logged x) same ∙ rests_logged log.format bodies (disks.seen log.disk) p.current.file

  new_logged : disks.seen log'.disk ≡ disks.seen log.other → logged (disks.seen log.other) ≡ bodies
  new_logged same = ap (λ (x : List ℕ). logged x) (sym same) ∙ rests_logged log'.format bodies (disks.seen log'.disk) q.current.file

  pub same_format : log'.format ≡ log.format
  same_format = by log.on_first log'.on_first refl refl
    where
      by : (t u : Bool) → log.on_first ≡ t → log'.on_first ≡ u → log'.format ≡ log.format
      by true true e k = in_place (seen_first true true e k)
      by false false e k = in_place (seen_second false false e k)
      by true false e k =
          let mine = old_logged (seen_first true false e k) in
          absurd (never_second bodies (logged (disks.seen log'.other)) (ap generation mine) (ap is_nil mine ∙ some) (ap (λ (t : Bool). beats t bodies (logged (disks.seen log'.other))) (sym k) ∙ q.older))
      by false true e k =
          let tie = tied stood (disks.seen log.other) bodies (p.calm_on tears) (new_logged (seen_first false true e k)) some in
          absurd (never_second bodies stood tie.0 tie.1 (ap (λ (t : Bool). beats t bodies stood) (sym e) ∙ p.older))

-- ---- a manager's log

abbrev boot_in : Result Durable ℕ → ℕ
boot_in (Ok d) = d.boot
boot_in (Err i) = 0

-- it has a record, that of a boot
some_record : (rs : List Record) (s : State) → Backs rs s → IsRecoverable s → is_nil (map spelled rs) ≡ false
some_record [] s b h =
    let none : 0 ≡ s.logged_boot = ap boot_in b.lasts in
    absurd (omega (arith, none, h.loggable.first, h.loggable.boots))
some_record (r ∷ rs) s b h = refl

pub found_some : {D : Type 0} (disks : Ghosts D) (bodies : List (List ℕ)) (log : LogView D) (s : State) → IsRecoverable s → Found disks bodies log s → is_nil bodies ≡ false
found_some disks bodies log s h f = ap is_nil f.spelled_as ∙ some_record f.records f.state f.backs (fate_recoverable f.many s f.state h f.fate)

-- a log that was alive before a look, and stood
pub stood_format : {D : Type 0} (disks : Ghosts D) (log log' : LogView D) (state : LogState) (found : List (List ℕ)) → IsIn disks state log → log.lost ≡ false → MayFind state found
    → Pair disks found (logged (disks.seen log'.other)) log' → CalmTears disks.tears → is_nil found ≡ false
    → disks.seen (first_of log') ≡ disks.seen (first_of log) → disks.seen (second_of log') ≡ disks.seen (second_of log) → log'.format ≡ log.format
stood_format disks log log' (Whole bodies stood) found p alive is q tears some first second =
    same_format disks log log' bodies stood p (subst (λ (x : List (List ℕ)). Pair disks x (logged (disks.seen log'.other)) log') is q) tears (ap is_nil (sym is) ∙ some) first second
stood_format disks log log' (LostAppend bodies group stood) found p alive is q tears some first second = absurd (cc (p.current.lost, alive))
stood_format disks log log' (LostCheckpoint bodies fresh) found p alive is q tears some first second = absurd (cc (p.lost, alive))
