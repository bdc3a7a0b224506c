-- The new boot's records come before those that the log has, and bodies are those of one list of records.
use Rattle.std.proofs.Common.{◌≡◌, ◌<◌, ◌≤◌, ◌+◌, ◌^◌, ℕ, List, [], ◌∷◌, ◌++◌, map, Ok, Err, refl, ap, sym, ◌∙◌, subst, arith}
use Rattle.std.specs.List.{AllByRecursion}
use Rattle.std.proofs.lemmas.Nat.{from_be_bytes-to_be_bytes_4}
use Rattle.xa_record.specs.Limits.{IsRecord}
use Rattle.xa_record.specs.Spelling.{spelled}
use Rattle.xa_record.specs.declared.record.Record.{Record}
use Rattle.xa_record.specs.declared.record.Record.TheVariants as logged
use Rattle.xa_record.proofs.Bodies.{one_body}
use Rattle.xa_log.specs.Believed.Pair.{number_in, generation}
use Rattle.xa_model.specs.Durable.{Durable}
use Rattle.xa_model.specs.Fold.{fold, snapshot, unread}
use Rattle.xa_limits.specs.declared.TheConstants.{MOST_BOOTS}
use Rattle.xa_recovery.specs.Log.{LogRebuilt}
use Rattle.xa_recovery.specs.declared.log_fault.LogFault.{LogFault}
use Rattle.xa_recovery.specs.declared.log_fault.LogFault.TheVariants.{Memory, Malformed, Order}
use Rattle.xa_recovery.proofs.Boots.{begins_with_boot}

number_opened : (boot : ℕ) → boot < 2 ^ 32 → number_in (spelled (logged.Opened boot)) ≡ boot
unfolding number_in
number_opened boot h = from_be_bytes-to_be_bytes_4 boot h

pub boot_of : (d : Durable) → fold [] ≡ Ok d → d.boot ≡ 0
boot_of d e = let same : unread.durable ≡ d = cc e in ap (λ (x : Durable). x.boot) (sym same)

pub newer : (rs : List Record) (d : Durable) → fold rs ≡ Ok d → d.boot < MOST_BOOTS → generation (map spelled rs) < generation (map spelled (snapshot d (d.boot + 1)))
newer [] d e less = let now = number_opened (d.boot + 1) (omega (arith, less)) in omega (arith, now)
newer (r ∷ rs) d e less =
    let first = begins_with_boot r rs d e in
    let was : number_in (spelled r) ≡ first.0 = ap (λ (x : Record). number_in (spelled x)) first.1 ∙ number_opened first.0 (omega (arith, less, first.3)) in
    let now = number_opened (d.boot + 1) (omega (arith, less)) in
    omega (arith, was, now, first.3)

-- what no records come to
pub first_number : (rs : List Record) (d : Durable) → map spelled rs ≡ [] → fold rs ≡ Ok d → generation (map spelled (snapshot d (d.boot + 1))) ≤ 1
first_number [] d none e =
    let boot : d.boot ≡ 0 = boot_of d e in
    let now = number_opened (d.boot + 1) (omega (arith, boot)) in omega (arith, now, boot)
first_number (r ∷ rs) d none e = absurd (cc none)

pub same_records : (qs rs : List Record) → AllByRecursion IsRecord qs → AllByRecursion IsRecord rs → map spelled qs ≡ map spelled rs → qs ≡ rs
same_records [] [] h k e = refl
same_records [] (r ∷ rs) h k e = absurd (cc e)
same_records (q ∷ qs) [] h k e = absurd (cc e)
same_records (q ∷ qs) (r ∷ rs) h k e =
    let first : q ≡ r = one_body q r h.0 k.0 (cc e) in
    let rest : qs ≡ rs = same_records qs rs h.1 k.1 (cc e) in cc

pub rebuilt_is : (bodies : List (List ℕ)) (rs : List Record) (d e : Durable) → LogRebuilt bodies (Ok d) → bodies ≡ map spelled rs → AllByRecursion IsRecord rs → fold rs ≡ Ok e → d ≡ e
rebuilt_is bodies rs d e (qs, are, folds) spells limits is =
    let same = same_records qs rs are.limits limits (are.spelling ∙ spells) in
    let both : fold rs ≡ Ok d = subst (λ (x : List Record). fold x ≡ Ok d) same folds in
    cc

none_malformed : (rs : List Record) (xs behind : List (List ℕ)) (body : List ℕ) → map spelled rs ≡ xs ++ body ∷ behind → AllByRecursion IsRecord rs → (r : Record) × IsRecord r × (spelled r ≡ body)
none_malformed [] [] behind body e h = absurd (cc e)
none_malformed [] (x ∷ xs) behind body e h = absurd (cc e)
none_malformed (r ∷ rs) [] behind body e h = (r, h.0, cc e)
none_malformed (r ∷ rs) (x ∷ xs) behind body e h = none_malformed rs xs behind body (cc e) h.1

-- a log whose records come to something wants memory alone
pub never_refused : (bodies : List (List ℕ)) (rs : List Record) (d : Durable) (fault : LogFault) → LogRebuilt bodies (Err fault) → bodies ≡ map spelled rs → AllByRecursion IsRecord rs → fold rs ≡ Ok d → fault ≡ Memory
never_refused bodies rs d Memory h spells limits is = refl
never_refused bodies rs d (Malformed i) h spells limits is =
    let found = none_malformed rs (map spelled h.before) h.behind h.body (sym spells ∙ h.parts) limits in absurd (h.malformed found.0 found.1 found.2)
never_refused bodies rs d (Order i) (qs, are, folds) spells limits is =
    let same = same_records qs rs are.limits limits (are.spelling ∙ spells) in
    let both : fold rs ≡ Err i = subst (λ (x : List Record). fold x ≡ Err i) same folds in absurd (cc (both, is))
