-- A copy that is finished.
use Rattle.std.proofs.Common.{◌≡◌, Bool, true, false, cond, ℕ, ◌+◌, ◌-◌, ◌≤◌, List, [], ◌∷◌, ◌++◌, length, replicate, refl, sym, ◌∙◌, ap, subst, arith, append_assoc, length-append}
use Rattle.std.specs.List.{AllByRecursion}
use Rattle.std.proofs.lemmas.List.{append-nil, drop_all, take_all}
use Rattle.xa_disk.specs.Disk.{put}
use Rattle.xa_log.specs.Believed.Chain.{IsBody, Rests, closing, digest, last, logged, magic, record_of, records, start, text}
use Rattle.xa_log.specs.Believed.Generation.{generation}
use Rattle.xa_log.specs.Believed.Pair.{on_first}
use Rattle.xa_log.specs.declared.format.Format.{Format}
use Rattle.xa_log.proofs.Records.{closed_zeros, length-text, logged_text, rests_logged}
use Rattle.xa_log.proofs.Whole.{whole_file}
use Rattle.xa_copy.specs.Copies.{Copies, CopiesTo, IsPairOf, WasLog}
use Rattle.xa_copy.specs.Gathers.{Gathers, end_of}
use Rattle.xa_copy.specs.Heads.{Heads}
use Rattle.xa_copy.specs.Marks.{Marks}
use Rattle.xa_copy.specs.Moving.{Goes, HasLog, State, Tells}
use Rattle.xa_copy.specs.Progress.{Closes, Follows, Has, Stands}
use Rattle.xa_copy.specs.declared.copied.Copied.{Copied}
use Rattle.xa_copy.specs.declared.copying.Copying.{Copying}
use Rattle.xa_copy.specs.declared.head.Head.{Head}
use Rattle.xa_copy.proofs.Following.{goes_on, goes_stay}
use Rattle.xa_copy.proofs.Pairs.{pair_by}

-- ---- a write at the end

pub put_end : (old bytes : List ℕ) (at : ℕ) → at ≡ length old → put old at bytes ≡ old ++ bytes
put_end old bytes at is =
    let n : at - length old ≡ 0 = omega (arith, is) in
    (λ i. take_all at old (omega (arith, is)) i ++ replicate (n i) 0 ++ bytes ++ drop_all (at + length bytes) old (omega (arith, is)) i)
    ∙ append-nil (old ++ [] ++ bytes) ∙ ap (λ (l : List ℕ). l ++ bytes) (append-nil old)

-- ---- a file's first record

pub life_by : (state : State) (head : Head) → Tells state → Heads state.file head → head.generation ≡ state.life
life_by state head tells heads = heads.number ∙ tells head.format (heads.body ∷ []) (λ none. cc none) heads.log

pub named_by : (format : Format) (body file : List ℕ) → HasLog format (body ∷ []) file → HasLog format [] file
named_by format body file log = record {
  rest = records (start format) (body ∷ []) ++ log.rest;
  split = log.split ∙ append_assoc (magic format) (records (start format) (body ∷ [])) log.rest ∙ ap (λ (l : List ℕ). l ++ (records (start format) (body ∷ []) ++ log.rest)) (sym (append-nil (magic format)));
  sizes = tt;
}

-- where a copy begins
pub stands_first : (honest kept : Type 0) (begin : State) (file : List ℕ) (head : Head) (copying : Copying) → copying.format ≡ head.format → Has [] copying
    → Gathers (text head.format []) [] copying.gather → (kept → file ≡ []) → (honest → Heads begin.file head) → Stands honest kept begin begin file [] copying
stands_first honest kept begin file head copying format has gathers empty heads = record {
  has = has;
  gathers = λ k. subst (λ f. Gathers (text f []) file copying.gather) (sym format) (subst (λ l. Gathers (text head.format []) l copying.gather) (sym (empty k)) gathers);
  follows = λ h. record {
    goes = goes_stay begin;
    holds = λ same. subst (λ f. HasLog f [] begin.file) (sym format) (named_by head.format (heads h).body begin.file (heads h).log);
  };
}

-- ---- what it was a copy of

pub closed_rests : (format : Format) (bodies : List (List ℕ)) (file : List ℕ) → Closes format bodies file → Rests format bodies file
closed_rests format bodies file c =
    record { rest = closing ++ c.rest; split = c.split; sizes = c.sizes; closed = closed_zeros format (last (start format) bodies) c.rest }

pub prefix_by : (format : Format) (stood bodies : List (List ℕ)) (file : List ℕ) → HasLog format stood file → Closes format bodies file
    → (more : List (List ℕ)) × (bodies ≡ stood ++ more)
prefix_by format stood bodies file log c =
    let it = logged_text format stood log.rest log.sizes in
    (_, sym (rests_logged format bodies file (closed_rests format bodies file c)) ∙ ap logged log.split ∙ it.1)

pub was_log : (format : Format) (bodies : List (List ℕ)) (begin mid end : State) → Follows format bodies begin mid → Goes mid end
    → end.life ≡ begin.life → (mid.life ≡ begin.life → Closes format bodies mid.file) → WasLog format bodies begin end
was_log format bodies begin mid end f goes same closes =
    let a = f.goes.rises in
    let b = goes.rises in
    let still : mid.life ≡ begin.life = omega (arith, a, b, same) in
    record {
      at = mid;
      since = f.goes;
      until = goes;
      same = still;
      is = closes still;
      logged = rests_logged format bodies mid.file (closed_rests format bodies mid.file (closes still));
      whole = whole_file format bodies mid.file (closed_rests format bodies mid.file (closes still)) (closes still).whole;
      kept = λ stood log. prefix_by format stood bodies mid.file (f.goes.grows still format stood log) (closes still);
    }

longer : (format : Format) (body : List ℕ) (bodies : List (List ℕ)) → length (text format (body ∷ [])) ≤ length (text format (body ∷ bodies))
longer format body bodies =
    let first : List ℕ = record_of (start format) body in
    omega (arith, length-text format (body ∷ []), length-text format (body ∷ bodies), length-append first [], length-append first (records (digest (start format) body) bodies))

pub marks_by : (bodies : List (List ℕ)) (copying : Copying) (copied : Copied) → Has bodies copying → copied.format ≡ copying.format
    → copied.digest ≡ copying.digest → copied.records ≡ copying.records → copied.end ≡ end_of copying.gather
    → copied.is_snapshot ≡ copying.is_snapshot → Marks bodies copied
marks_by bodies copying copied has format digest records ends snapshot = record {
  sizes = subst (λ f. AllByRecursion (IsBody f) bodies) (sym format) has.sizes;
  digest = digest ∙ has.digest ∙ ap (λ (f : Format). last (start f) bodies) (sym format);
  records = records ∙ has.records;
  end = ends ∙ has.end ∙ ap (λ (f : Format). length (text f bodies)) (sym format);
  snapshot = snapshot ∙ has.snapshot;
}

-- with both files
pub copies_by : (most : ℕ) (head : Head) (format : Format) (bodies : List (List ℕ)) (begin mid end : State) (to to' : List ℕ) (copied : Copied) (copying : Copying)
    → format ≡ head.format → Heads begin.file head → Follows format bodies begin mid → Goes mid end → end.life ≡ begin.life
    → (mid.life ≡ begin.life → Closes format bodies mid.file) → copying.format ≡ format → Has bodies copying
    → end_of copying.gather + 4 ≤ most → to ≡ text format bodies ++ closing → to' ≡ head.front.items ++ closing
    → copied.records ≡ copying.records → copied.end ≡ end_of copying.gather → copied.generation ≡ head.generation → copied.format ≡ copying.format → copied.digest ≡ copying.digest
    → copied.is_snapshot ≡ copying.is_snapshot → Tells begin → CopiesTo most begin end to to' copied
copies_by most head format bodies begin mid end to to' copied copying format_is heads f goes same closes copying_is has fits to_is to'_is records ends number format_copied digest snapshot tells =
    let was : WasLog format bodies begin end = was_log format bodies begin mid end f goes same closes in
    let log : HasLog format (heads.body ∷ []) begin.file = subst (λ k. HasLog k (heads.body ∷ []) begin.file) (sym format_is) heads.log in
    let kept = was.kept (heads.body ∷ []) log in
    let more : List (List ℕ) = kept.0 in
    let is : bodies ≡ heads.body ∷ more = kept.1 in
    let end_is : end_of copying.gather ≡ length (text format bodies) = has.end ∙ ap (λ (k : Format). length (text k bodies)) copying_is in
    let long : length to ≤ most = omega (arith, fits, end_is, ap length to_is, length-append (text format bodies) closing) in
    let second : to' ≡ text format (heads.body ∷ []) ++ closing = to'_is ∙ ap (λ (l : List ℕ). l ++ closing) (heads.front ∙ ap (λ (k : Format). text k (heads.body ∷ [])) (sym format_is)) in
    let short : length to' ≤ most =
    omega (arith, fits, end_is, ap (λ (l : List (List ℕ)). length (text format l)) is, longer format heads.body more, ap length second, length-append (text format (heads.body ∷ [])) closing) in
    let first : to ≡ text format (heads.body ∷ more) ++ closing = to_is ∙ ap (λ (l : List (List ℕ)). text format l ++ closing) is in
    let pair : IsPairOf most format (heads.body ∷ more) to to' =
    pair_by most format heads.body more (subst (λ l. AllByRecursion (IsBody format) l) is was.is.sizes) to to' first second long short in
    record {
      format = format;
      bodies = bodies;
      was = was;
      pair = subst (λ l. IsPairOf most format l to to') (sym is) pair;
      records = records ∙ has.records;
      end_is = ends ∙ end_is;
      number = number ∙ heads.number ∙ ap generation (sym is);
      format_is = format_copied ∙ copying_is;
      some = omega (arith, ap (λ (l : List (List ℕ)). length l) is);
      life = sym (life_by begin head tells heads) ∙ heads.number ∙ ap generation (sym is);
      marks = marks_by bodies copying copied has format_copied digest records ends snapshot;
    }

-- ---- of two files

pub goes_chosen : (b : Bool) (first first' second second' : State) → Goes first first' → Goes second second' → Goes (cond b first second) (cond b first' second')
goes_chosen true first first' second second' a b = a
goes_chosen false first first' second second' a b = b

pub copies_chosen : (most : ℕ) (first first_then first' second second_then second' : State) (to to' : List ℕ) (copied : Copied) (b : Bool)
    → Goes first first_then → Goes second second_then → copied.on_first ≡ b → b ≡ on_first first_then.file second_then.file
    → CopiesTo most (cond b first_then second_then) (cond b first' second') to to' copied → Copies most first first' second second' to to' copied
copies_chosen most first first_then first' second second_then second' to to' copied b a a' is chosen it =
    let copies : CopiesTo most (cond copied.on_first first_then second_then) (cond copied.on_first first' second') to to' copied =
    subst (λ t. CopiesTo most (cond t first_then second_then) (cond t first' second') to to' copied) (sym is) it in
    record {
      first_then = first_then;
      second_then = second_then;
      since_first = a;
      since_second = a';
      chosen = is ∙ chosen;
      copies = copies;
      kept = λ stood same log.
          copies.was.kept stood ((goes_chosen copied.on_first first first_then second second_then a a').grows same copies.format stood log);
    }

-- since an earlier moment
pub copies_since : (most : ℕ) (first first' second second' first_now second_now : State) (to to' : List ℕ) (copied : Copied)
    → Goes first first_now → Goes second second_now → Copies most first_now first' second_now second' to to' copied
    → Copies most first first' second second' to to' copied
copies_since most first first' second second' first_now second_now to to' copied a a' it =
    copies_chosen most first it.first_then first' second it.second_then second' to to' copied copied.on_first
    (goes_on first first_now it.first_then a it.since_first) (goes_on second second_now it.second_then a' it.since_second) refl it.chosen it.copies
