-- A log that is read while it grows.
use Rattle.std.proofs.Common.{◌≡◌, ℕ, ◌+◌, List, [], ◌∷◌, ◌++◌, length, take, drop, sym, ◌∙◌, ap, subst, arith, append_assoc, length-append, take-append-drop}
use Rattle.std.specs.List.{AllByRecursion}
use Rattle.std.specs.Prelude.{Bool, false, not, ◌&&◌, slice_index}
use Rattle.xa_copy.proofs.Unbroken.{snapshot_more}
use Rattle.std.proofs.lemmas.List.{drop_at}
use Rattle.xa_log.specs.Believed.Chain.{IsBody, closing, digest, last, record_of, start, text}
use Rattle.xa_log.specs.Believed.Damage.{breaks_off, is_appended}
use Rattle.xa_log.specs.declared.format.Format.{Format}
use Rattle.xa_log.proofs.Records.{last_more, length-record_of, sizes_more, text_more}
use Rattle.xa_copy.specs.Gathers.{Gathers, end_of}
use Rattle.xa_copy.specs.Moving.{Goes, HasLog, State}
use Rattle.xa_copy.specs.Progress.{Closes, Ends, Follows, Has, Stands, Takes}
use Rattle.xa_copy.specs.declared.copying.Copying.{Copying}
use Rattle.xa_copy.specs.declared.gather.Gather.{Gather}

-- ---- what becomes of a file

pub goes_stay : (a : State) → Goes a a
goes_stay a = record { rises = omega arith; grows = λ same format bodies log. log }

pub goes_on : (a b c : State) → Goes a b → Goes b c → Goes a c
goes_on a b c ab bc = record {
  rises = omega (arith, ab.rises, bc.rises);
  grows = λ same format bodies log.
      bc.grows (omega (arith, same, ab.rises, bc.rises)) format bodies (ab.grows (omega (arith, same, ab.rises, bc.rises)) format bodies log);
}

pub follow_on : (format : Format) (bodies : List (List ℕ)) (begin a b : State) → Follows format bodies begin a → Goes a b → Follows format bodies begin b
follow_on format bodies begin a b f ab = record {
  goes = goes_on begin a b f.goes ab;
  holds = λ same.
      let rises = f.goes.rises in
      let further = ab.rises in
      ab.grows (omega (arith, same, rises, further)) format bodies (f.holds (omega (arith, same, rises, further)));
}

-- ---- one record more

text_one : (format : Format) (bodies : List (List ℕ)) (body tail rest : List ℕ) → tail ≡ record_of (last (start format) bodies) body ++ rest
    → text format bodies ++ tail ≡ text format (bodies ++ body ∷ []) ++ rest
text_one format bodies body tail rest is =
    ap (λ (l : List ℕ). text format bodies ++ l) is
    ∙ sym (append_assoc (text format bodies) (record_of (last (start format) bodies) body) rest)
    ∙ ap (λ (l : List ℕ). l ++ rest) (sym (text_more format bodies body))

pub log_more : (format : Format) (bodies : List (List ℕ)) (body file : List ℕ) (at n : ℕ) → HasLog format bodies file → at ≡ length (text format bodies)
    → IsBody format body → take n (drop at file) ≡ record_of (last (start format) bodies) body → HasLog format (bodies ++ body ∷ []) file
log_more format bodies body file at n log at_is ok read =
    let tail : drop at file ≡ log.rest = ap (λ (l : List ℕ). drop at l) log.split ∙ drop_at (text format bodies) log.rest at (sym at_is) in
    let is : log.rest ≡ record_of (last (start format) bodies) body ++ drop n log.rest =
    sym (take-append-drop n log.rest) ∙ ap (λ (l : List ℕ). l ++ drop n log.rest) (ap (λ (l : List ℕ). take n l) (sym tail) ∙ read) in
    record {
      rest = drop n log.rest;
      split = log.split ∙ text_one format bodies body log.rest (drop n log.rest) is;
      sizes = sizes_more format bodies body log.sizes ok;
    }

pub follow_more : (format : Format) (bodies : List (List ℕ)) (body : List ℕ) (begin a b : State) (at n : ℕ) → Follows format bodies begin a → Goes a b
    → at ≡ length (text format bodies) → IsBody format body → take n (drop at b.file) ≡ record_of (last (start format) bodies) body
    → Follows format (bodies ++ body ∷ []) begin b
follow_more format bodies body begin a b at n f ab at_is ok read =
    let g = follow_on format bodies begin a b f ab in
    record { goes = g.goes; holds = λ same. log_more format bodies body b.file at n (g.holds same) at_is ok read }

pub gathers_more : (format : Format) (bodies : List (List ℕ)) (body file : List ℕ) (old new : Gather) → Gathers (text format bodies) file old
    → new.written ≡ old.written
    → take new.pending new.buffer.items ≡ take old.pending old.buffer.items ++ record_of (last (start format) bodies) body
    → Gathers (text format (bodies ++ body ∷ [])) file new
gathers_more format bodies body file old new g written is = record {
  all = ap (λ (l : List ℕ). file ++ l) is
      ∙ sym (append_assoc file (take old.pending old.buffer.items) (record_of (last (start format) bodies) body))
      ∙ ap (λ (l : List ℕ). l ++ record_of (last (start format) bodies) body) g.all
      ∙ sym (text_more format bodies body);
  written = written ∙ g.written;
}

pub has_more : (bodies : List (List ℕ)) (old new : Copying) (honest : Type 0) (at : ℕ) (now : State) → Has bodies old → (t : Takes honest at now old new)
    → Has (bodies ++ t.body ∷ []) new
has_more bodies old new honest at now has t =
    let format : Format = old.format in
    let body : List ℕ = t.body in
    let prev : old.digest ≡ last (start format) bodies = has.digest in
    let same : new.format ≡ old.format = t.format in
    let more : length (text format (bodies ++ body ∷ [])) ≡ length (text format bodies ++ record_of (last (start format) bodies) body) =
    ap length (text_more format bodies body) in
    let sizes : AllByRecursion (IsBody format) (bodies ++ body ∷ []) = sizes_more format bodies body has.sizes t.ok in
    record {
      sizes = subst (λ f. AllByRecursion (IsBody f) (bodies ++ body ∷ [])) (sym same) sizes;
      digest = t.digest ∙ ap (λ (p : List ℕ). digest p body) prev ∙ sym (last_more (start format) bodies body) ∙ ap (λ (f : Format). last (start f) (bodies ++ body ∷ [])) (sym same);
      records = omega (arith, t.records, has.records, length-append bodies (body ∷ []));
      snapshot = t.snapshot ∙ ap (λ (b : Bool). b && not (is_appended (slice_index body 0))) has.snapshot ∙ sym (snapshot_more bodies body);
      end = omega (arith, has.end, t.pending, t.written, more, length-append (text format bodies) (record_of (last (start format) bodies) body), length-record_of (last (start format) bodies) body)
          ∙ ap (λ (f : Format). length (text f (bodies ++ body ∷ []))) (sym same);
    }

pub stands_more : (honest kept : Type 0) (begin a now : State) (file : List ℕ) (bodies : List (List ℕ)) (old new : Copying) (at : ℕ)
    → Stands honest kept begin a file bodies old → (honest → Goes a now) → at ≡ end_of old.gather
    → (t : Takes honest at now old new) → Stands honest kept begin now file (bodies ++ t.body ∷ []) new
stands_more honest kept begin a now file bodies old new at s goes at_is t =
    let prev : old.digest ≡ last (start old.format) bodies = s.has.digest in
    let body : List ℕ = t.body in
    let rec : record_of old.digest body ≡ record_of (last (start old.format) bodies) body = ap (λ (p : List ℕ). record_of p body) prev in
    record {
      has = has_more bodies old new honest at now s.has t;
      gathers = λ k.
          subst (λ f. Gathers (text f (bodies ++ body ∷ [])) file new.gather) (sym t.format)
          (gathers_more old.format bodies body file old.gather new.gather (s.gathers k) t.written
          (t.buffer ∙ ap (λ (l : List ℕ). take old.gather.pending old.gather.buffer.items ++ l) rec));
      follows = λ h.
          subst (λ f. Follows f (bodies ++ body ∷ []) begin now) (sym t.format)
          (follow_more old.format bodies body begin a now at (36 + length body) (s.follows h) (goes h) (at_is ∙ s.has.end) t.ok
          (t.read h ∙ rec));
    }

-- ---- and none

pub closes_by : (format : Format) (bodies : List (List ℕ)) (file : List ℕ) (at : ℕ) → HasLog format bodies file → at ≡ length (text format bodies)
    → take 4 (drop at file) ≡ closing → breaks_off format bodies file ≡ false → Closes format bodies file
closes_by format bodies file at log at_is read whole =
    let tail : drop at file ≡ log.rest = ap (λ (l : List ℕ). drop at l) log.split ∙ drop_at (text format bodies) log.rest at (sym at_is) in
    let is : log.rest ≡ closing ++ drop 4 log.rest =
    sym (take-append-drop 4 log.rest) ∙ ap (λ (l : List ℕ). l ++ drop 4 log.rest) (ap (λ (l : List ℕ). take 4 l) (sym tail) ∙ read) in
    record { rest = drop 4 log.rest; split = log.split ∙ ap (λ (l : List ℕ). text format bodies ++ l) is; sizes = log.sizes; whole = whole }

-- ---- what stands

pub stands_on : (honest kept : Type 0) (begin a b : State) (file : List ℕ) (bodies : List (List ℕ)) (copying : Copying)
    → Stands honest kept begin a file bodies copying → (honest → Goes a b) → Stands honest kept begin b file bodies copying
stands_on honest kept begin a b file bodies copying s goes =
    record { has = s.has; gathers = s.gathers; follows = λ h. follow_on copying.format bodies begin a b (s.follows h) (goes h) }

pub stands_roomed : (honest kept : Type 0) (begin a : State) (file file' : List ℕ) (bodies : List (List ℕ)) (copying : Copying) (gather : Gather)
    → Stands honest kept begin a file bodies copying → end_of gather ≡ end_of copying.gather
    → (kept → Gathers (text copying.format bodies) file' gather) → Stands honest kept begin a file' bodies (record copying { gather = gather })
stands_roomed honest kept begin a file file' bodies copying gather s end gathers =
    record {
      has = record { sizes = s.has.sizes; digest = s.has.digest; records = s.has.records; end = end ∙ s.has.end; snapshot = s.has.snapshot };
      gathers = gathers;
      follows = s.follows;
    }

pub ends_by : (honest kept : Type 0) (begin now : State) (file : List ℕ) (copying : Copying) (bodies : List (List ℕ))
    → Stands honest kept begin now file bodies copying × (honest → now.life ≡ begin.life → Closes copying.format bodies now.file)
    → Ends honest kept begin now file copying
ends_by honest kept begin now file copying bodies s = record { bodies = bodies; stands = s.0; closes = s.1 }
