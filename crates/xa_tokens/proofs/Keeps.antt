-- Each step keeps the rule.
use Rattle.std.proofs.Common.{◌≡◌, ◌≢◌, ℕ, zero, suc, ◌+◌, ◌<◌, ◌≤◌, List, [], ◌∷◌, ◌++◌, length, set, true, false, true≢false, refl, sym, ap, ◌∙◌, subst, ⊎_elim, arith, length-append}
use Rattle.std.specs.Prelude.{sum_by}
use Rattle.std.proofs.lemmas.List.{append-nil}
use Rattle.std.proofs.lemmas.List.Sums.{sum_by-append, sum_by_push}
use mathlib.Core.Option.{some, some-ne-none, some-injective}
use lib.ListN.{get_elem?}
use Rattle.atomic_table.proofs.Lists.{at_set}
use Rattle.xa_tokens.specs.declared.ask.Ask.{Ask}
use Rattle.xa_tokens.specs.declared.receipt.Receipt.{Receipt}
use Rattle.xa_tokens.specs.declared.view.View.{View}
use Rattle.xa_tokens.specs.Believed.Account.{account, account_of}
use Rattle.xa_tokens.specs.Believed.Receipts.{AreNumbered, last_or}
use Rattle.xa_tokens.specs.Believed.Rule.{AskedWithin, Kept, StandWithin}
use Rattle.xa_tokens.specs.Steps.{answering, asking, giving_up, joined, kept_part, less_last, less_one, one_part, only_tickets, other_part, without_tickets, withdrawing}
use Rattle.xa_tokens.specs.Believed.View.{first_view, no_view, ticket_view}
use Rattle.xa_tokens.proofs.Sums.{cut_same, each_more, each_set, join_same, set_adds, set_same, sum_set}

off : false ≡ true → ⊥
off e = true≢false (sym e)

abbrev Knows : ℕ → List Receipt → ℕ → View → Type 0
Knows seat history by v = v.keeps ≡ true → (by ≡ seat) × (v.history ≡ history)

abbrev Idles : ℕ → View → Type 0
Idles by v = v.parts ≡ 0 → (v.asked ≡ []) × (v.given_up ≡ [])

abbrev Places : ℕ → ℕ → View → Type 0
Places n by v = StandWithin n v.told × AskedWithin n v.tickets

within_more : (n m : ℕ) (es : List Receipt) → n ≤ m → StandWithin n es → StandWithin m es
within_more n m [] le h = tt
within_more n m (e ∷ es) le h = (omega (arith, h.0, le), within_more n m es le h.1)

asked_more : (n m : ℕ) (asked : List Ask) → n ≤ m → AskedWithin n asked → AskedWithin m asked
asked_more n m [] le h = tt
asked_more n m (a ∷ rest) le h = (omega (arith, h.0, le), asked_more n m rest le h.1)

within-append : (n : ℕ) (xs ys : List Receipt) → StandWithin n xs → StandWithin n ys → StandWithin n (xs ++ ys)
within-append n [] ys one two = two
within-append n (e ∷ es) ys one two = (one.0, within-append n es ys one.1 two)

asked-append : (n : ℕ) (xs ys : List Ask) → AskedWithin n xs → AskedWithin n ys → AskedWithin n (xs ++ ys)
asked-append n [] ys one two = two
asked-append n (a ∷ rest) ys one two = (one.0, asked-append n rest ys one.1 two)

numbered_push : (k : ℕ) (es : List Receipt) (e : Receipt) → AreNumbered k es → e.reply.place ≡ k + length es + 1 → AreNumbered k (es ++ e ∷ [])
numbered_push k [] e h is = (omega (arith, is), tt)
numbered_push k (x ∷ es) e h is = (h.0, numbered_push (k + 1) es e h.1 (omega (arith, is)))

last_within : (n m : ℕ) (es : List Receipt) → m ≤ n → StandWithin n es → last_or m es ≤ n
last_within n m [] le h = le
last_within n m (e ∷ es) le h = last_within n e.reply.place es h.0 h.1

pub begins : Kept (first_view ∷ [])
begins = record {
  seat = 0;
  history = [];
  knows = knows_one;
  idle = idle_one;
  placed = placed_one;
  numbered = tt;
  parts = refl;
  told = λ weigh. refl;
  asked = λ weigh. refl;
}
  where
    knows_one : (by : ℕ) (v : View) → get_elem? (first_view ∷ []) by ≡ some v → Knows 0 [] by v
    knows_one zero v e = subst (Knows 0 [] 0) (some-injective _ _ e) (λ _. (refl, refl))
    knows_one (suc by) v e = absurd (some-ne-none v (sym e))

    placed_one : (by : ℕ) (v : View) → get_elem? (first_view ∷ []) by ≡ some v → Places 0 by v
    placed_one zero v e = subst (Places 0 0) (some-injective _ _ e) (tt, tt)
    placed_one (suc by) v e = absurd (some-ne-none v (sym e))

    idle_one : (by : ℕ) (v : View) → get_elem? (first_view ∷ []) by ≡ some v → Idles by v
    idle_one zero v e = subst (Idles 0) (some-injective _ _ e) (λ _. (refl, refl))
    idle_one (suc by) v e = absurd (some-ne-none v (sym e))

-- a share asks
pub asks : (views : List View) (by : ℕ) (v : View) (a : Ask) → 0 < v.parts → a.after ≡ last_or 0 v.told → Kept views → get_elem? views by ≡ some v → Kept (set views by (asking a v))
asks views by v a some_part last k at = record {
  seat = k.seat;
  history = k.history;
  knows = each_set (Knows k.seat k.history) views by (asking a v) (λ j u _ e. k.knows j u e) (k.knows by v at);
  idle = each_set Idles views by (asking a v) (λ j u _ e. k.idle j u e) (λ none. absurd (omega (arith, none, some_part)));
  placed = each_set (Places (length k.history)) views by (asking a v) (λ j u _ e. k.placed j u e)
      (let mine = k.placed by v at in (mine.0, asked-append (length k.history) v.tickets (a ∷ []) mine.1 (omega (arith, last, last_within (length k.history) 0 v.told (omega arith) mine.0), tt)));
  numbered = k.numbered;
  parts = set_same views by v at (λ u. u.parts) (asking a v) refl ∙ k.parts;
  told = λ weigh. set_same views by v at (λ u. sum_by weigh u.told) (asking a v) refl ∙ k.told weigh;
  asked = λ weigh.
      let x = set_adds views by v at (λ u. sum_by weigh u.asked) (asking a v) (weigh a) (sum_by_push weigh v.asked a) in
      let y = set_adds views by v at (λ u. sum_by weigh u.tickets) (asking a v) (weigh a) (sum_by_push weigh v.tickets a) in
      let z = set_same views by v at (λ u. sum_by weigh u.given_up) (asking a v) refl in
      omega (arith, x, y, z, k.asked weigh);
}

-- a share gives up what it has tickets for
pub gives : (views : List View) (by : ℕ) (v : View) → 0 < v.parts → Kept views → get_elem? views by ≡ some v → Kept (set views by (giving_up v))
gives views by v some_part k at = record {
  seat = k.seat;
  history = k.history;
  knows = each_set (Knows k.seat k.history) views by (giving_up v) (λ j u _ e. k.knows j u e) (k.knows by v at);
  idle = each_set Idles views by (giving_up v) (λ j u _ e. k.idle j u e) (λ none. absurd (omega (arith, none, some_part)));
  placed = each_set (Places (length k.history)) views by (giving_up v) (λ j u _ e. k.placed j u e) ((k.placed by v at).0, tt);
  numbered = k.numbered;
  parts = set_same views by v at (λ u. u.parts) (giving_up v) refl ∙ k.parts;
  told = λ weigh. set_same views by v at (λ u. sum_by weigh u.told) (giving_up v) refl ∙ k.told weigh;
  asked = λ weigh.
      let x = set_same views by v at (λ u. sum_by weigh u.asked) (giving_up v) refl in
      let y = sum_set (λ (u : View). sum_by weigh u.tickets) views by v (giving_up v) at in
      let z = set_adds views by v at (λ u. sum_by weigh u.given_up) (giving_up v) (sum_by weigh v.tickets) (sum_by-append weigh v.given_up v.tickets) in
      omega (arith, x, y, z, k.asked weigh);
}

pub less_pushed : (xs : List Ask) (a : Ask) → less_last (xs ++ a ∷ []) ≡ xs
less_pushed [] a = refl
less_pushed (x ∷ []) a = refl
less_pushed (x ∷ y ∷ rest) a = ap (λ l. x ∷ l) (less_pushed (y ∷ rest) a)

-- what a share has then that asked for it
pub withdrawn : (v t w : View) (rest : List Ask) (a : Ask) → t ≡ ticket_view a → w ≡ withdrawing (joined v t) → v.asked ≡ rest ++ a ∷ []
    → account_of w ≡ record (account_of v) { asked = rest }
withdrawn v t w rest a ticket is last =
    ap account_of is ∙ ap (λ (u : View). account_of (withdrawing (joined v u))) ticket
    ∙ (λ i. account (parts i) (less i) (append-nil v.told i) (append-nil v.given_up i))
  where
    parts : v.parts + 0 ≡ v.parts
    parts = omega arith

    less : less_last (v.asked ++ []) ≡ rest
    less = ap less_last (append-nil v.asked) ∙ ap less_last last ∙ less_pushed rest a

-- a share takes back what it asked for last
pub withdraws : (views : List View) (by : ℕ) (v : View) (rest : List Ask) (a : Ask) → 0 < v.parts → v.asked ≡ rest ++ a ∷ [] → v.tickets ≡ a ∷ [] → Kept views → get_elem? views by ≡ some v
    → Kept (set views by (withdrawing v))
withdraws views by v rest a some_part last may k at = record {
  seat = k.seat;
  history = k.history;
  knows = each_set (Knows k.seat k.history) views by (withdrawing v) (λ j u _ e. k.knows j u e) (k.knows by v at);
  idle = each_set Idles views by (withdrawing v) (λ j u _ e. k.idle j u e) (λ none. absurd (omega (arith, none, some_part)));
  placed = each_set (Places (length k.history)) views by (withdrawing v) (λ j u _ e. k.placed j u e) ((k.placed by v at).0, tt);
  numbered = k.numbered;
  parts = set_same views by v at (λ u. u.parts) (withdrawing v) refl ∙ k.parts;
  told = λ weigh. set_same views by v at (λ u. sum_by weigh u.told) (withdrawing v) refl ∙ k.told weigh;
  asked = λ weigh.
      let x = sum_set (λ (u : View). sum_by weigh u.asked) views by v (withdrawing v) at in
      let y = sum_set (λ (u : View). sum_by weigh u.tickets) views by v (withdrawing v) at in
      let z = set_same views by v at (λ u. sum_by weigh u.given_up) (withdrawing v) refl in
      let was : sum_by weigh v.asked ≡ sum_by weigh rest + weigh a = ap (λ l. sum_by weigh l) last ∙ sum_by_push weigh rest a in
      let less : sum_by weigh (less_last v.asked) ≡ sum_by weigh rest = ap (λ l. sum_by weigh (less_last l)) last ∙ ap (λ l. sum_by weigh l) (less_pushed rest a) in
      let m : sum_by weigh v.tickets ≡ 0 + weigh a = ap (λ l. sum_by weigh l) may ∙ sum_by_push weigh [] a in
      omega (arith, x, y, z, was, less, m, k.asked weigh);
}

-- the keeper carries out what it has the one ticket for
pub answers : (views : List View) (by : ℕ) (v : View) (e : Receipt) → v.keeps ≡ true → v.tickets ≡ e.ask ∷ [] → e.reply.place ≡ length v.history + 1 → Kept views → get_elem? views by ≡ some v → Kept (set views by (answering e v))
answers views by v e keeps may next k at =
    let mine = k.knows by v at keeps in
    let now = length (k.history ++ e ∷ []) in
    let longer : now ≡ length k.history + 1 = length-append k.history (e ∷ []) in
    let place : e.reply.place ≡ length k.history + 1 = next ∙ ap (λ (l : List Receipt). length l + 1) mine.1 in record {
      seat = k.seat;
      history = k.history ++ e ∷ [];
      knows = each_set (Knows k.seat (k.history ++ e ∷ [])) views by (answering e v)
          (λ j u apart is kept. absurd (apart ((k.knows j u is kept).0 ∙ sym mine.0)))
          (λ _. (mine.0, ap (λ l. l ++ e ∷ []) mine.1));
      idle = each_set Idles views by (answering e v) (λ j u _ is. k.idle j u is) (k.idle by v at);
      placed = each_set (Places now) views by (answering e v)
          (λ j u _ is. let p = k.placed j u is in (within_more (length k.history) now u.told (omega (arith, longer)) p.0, asked_more (length k.history) now u.tickets (omega (arith, longer)) p.1))
          (within-append now v.told (e ∷ []) (within_more (length k.history) now v.told (omega (arith, longer)) (k.placed by v at).0) (omega (arith, longer, place), tt), tt);
      numbered = numbered_push 0 k.history e k.numbered (omega (arith, place));
      parts = set_same views by v at (λ u. u.parts) (answering e v) refl ∙ k.parts;
      told = λ weigh.
          let x = set_adds views by v at (λ u. sum_by weigh u.told) (answering e v) (weigh e) (sum_by_push weigh v.told e) in
          omega (arith, x, sum_by_push weigh k.history e, k.told weigh);
      asked = λ weigh.
          let x = set_same views by v at (λ u. sum_by weigh u.asked) (answering e v) refl in
          let y = sum_set (λ (u : View). sum_by weigh u.tickets) views by v (answering e v) at in
          let m : sum_by weigh v.tickets ≡ 0 + weigh e.ask = ap (λ l. sum_by weigh l) may ∙ sum_by_push weigh [] e.ask in
          let g = set_same views by v at (λ u. sum_by weigh u.given_up) (answering e v) refl in
          omega (arith, x, y, m, g, sum_by_push (λ (z : Receipt). weigh z.ask) k.history e, k.asked weigh);
    }

-- what a cut has to say of its halves
pub record Cuts (v left right : View) : Type 0 where
  pub keeps : left.keeps ≡ v.keeps
  pub history : left.history ≡ v.history
  pub other : right.keeps ≡ false
  pub left_idle : Idles 0 v → Idles 0 left
  pub right_idle : Idles 0 v → Idles 0 right
  pub places : (n : ℕ) → Places n 0 v → Places n 0 left × Places n 0 right
  pub parts : left.parts + right.parts ≡ v.parts
  pub asked : (weigh : Ask → ℕ) → sum_by weigh left.asked + sum_by weigh right.asked ≡ sum_by weigh v.asked
  pub told : (weigh : Receipt → ℕ) → sum_by weigh left.told + sum_by weigh right.told ≡ sum_by weigh v.told
  pub tickets : (weigh : Ask → ℕ) → sum_by weigh left.tickets + sum_by weigh right.tickets ≡ sum_by weigh v.tickets
  pub given_up : (weigh : Ask → ℕ) → sum_by weigh left.given_up + sum_by weigh right.given_up ≡ sum_by weigh v.given_up

pub cuts : (views : List View) (by : ℕ) (v left right : View) → Cuts v left right → Kept views → get_elem? views by ≡ some v → Kept (set views by left ++ right ∷ [])
cuts views by v left right c k at = record {
  seat = k.seat;
  history = k.history;
  knows = each_more (Knows k.seat k.history) (set views by left) right
      (each_set (Knows k.seat k.history) views by left (λ j u _ e. k.knows j u e)
      (λ kept. let mine = k.knows by v at (sym c.keeps ∙ kept) in (mine.0, c.history ∙ mine.1)))
      (λ j kept. absurd (off (sym c.other ∙ kept)));
  idle = each_more Idles (set views by left) right
      (each_set Idles views by left (λ j u _ e. k.idle j u e) (c.left_idle (k.idle by v at)))
      (λ j. c.right_idle (k.idle by v at));
  placed =
      let p = c.places (length k.history) (k.placed by v at) in
      each_more (Places (length k.history)) (set views by left) right (each_set (Places (length k.history)) views by left (λ j u _ e. k.placed j u e) p.0) (λ j. p.1);
  numbered = k.numbered;
  parts = cut_same views by v at (λ u. u.parts) left right c.parts ∙ k.parts;
  told = λ weigh. cut_same views by v at (λ u. sum_by weigh u.told) left right (c.told weigh) ∙ k.told weigh;
  asked = λ weigh.
      let x = cut_same views by v at (λ u. sum_by weigh u.asked) left right (c.asked weigh) in
      let y = cut_same views by v at (λ u. sum_by weigh u.tickets) left right (c.tickets weigh) in
      let z = cut_same views by v at (λ u. sum_by weigh u.given_up) left right (c.given_up weigh) in
      omega (arith, x, y, z, k.asked weigh);
}

pub cuts_keeper : (v : View) → Cuts v (kept_part v) (other_part v)
cuts_keeper v = record {
  keeps = refl;
  history = refl;
  other = refl;
  left_idle = λ _ _. (refl, refl);
  right_idle = λ i. i;
  places = λ n p. ((tt, tt), p);
  parts = omega arith;
  asked = λ weigh. omega arith;
  told = λ weigh. omega arith;
  tickets = λ weigh. omega arith;
  given_up = λ weigh. omega arith;
}

pub cuts_tickets : (v : View) → Cuts v (without_tickets v) (only_tickets v)
cuts_tickets v = record {
  keeps = refl;
  history = refl;
  other = refl;
  left_idle = λ i. i;
  right_idle = λ _ _. (refl, refl);
  places = λ n p. ((p.0, tt), (tt, p.1));
  parts = omega arith;
  asked = λ weigh. omega arith;
  told = λ weigh. omega arith;
  tickets = λ weigh. omega arith;
  given_up = λ weigh. omega arith;
}

pub cuts_one : (v : View) → 1 < v.parts → Cuts v (less_one v) (one_part v)
cuts_one v more = record {
  keeps = refl;
  history = refl;
  other = refl;
  left_idle = λ i none. absurd (omega (arith, none, more));
  right_idle = λ _ _. (refl, refl);
  places = λ n p. (p, (tt, tt));
  parts = omega (arith, more);
  asked = λ weigh. omega arith;
  told = λ weigh. omega arith;
  tickets = λ weigh. omega arith;
  given_up = λ weigh. omega arith;
}

both_idle : (v w : View) → Idles 0 v → Idles 0 w → Idles 0 (joined v w)
both_idle v w one two none =
    let a = one (omega (arith, none)) in
    let b = two (omega (arith, none)) in
    ((λ i. a.0 i ++ b.0 i), (λ i. a.1 i ++ b.1 i))

pub joins : (views : List View) (by : ℕ) (v : View) (other : ℕ) (w : View) → ¬ (other ≡ by) → Kept views → get_elem? views by ≡ some v
    → get_elem? (set views by (joined v w)) other ≡ some w → Kept (set (set views by (joined v w)) other no_view)
joins views by v other w apart k at there =
    let was : get_elem? views other ≡ some w =
    ⊎_elim (λ (t : (other ≡ by) × (joined v w ≡ w)). absurd (apart t.0)) (λ (t : (other ≢ by) × (get_elem? views other ≡ some w)). t.1) (at_set views by other (joined v w) w there) in record {
      seat = k.seat;
      history = k.history;
      knows = each_set (Knows k.seat k.history) (set views by (joined v w)) other no_view
          (λ j u _ e. each_set (Knows k.seat k.history) views by (joined v w) (λ i y _ is. k.knows i y is) (k.knows by v at) j u e)
          (λ kept. absurd (off kept));
      idle = each_set Idles (set views by (joined v w)) other no_view
          (λ j u _ e. each_set Idles views by (joined v w) (λ i y _ is. k.idle i y is) (both_idle v w (k.idle by v at) (k.idle other w was)) j u e)
          (λ _. (refl, refl));
      placed =
          let p = k.placed by v at in
          let q = k.placed other w was in
          let n = length k.history in
          each_set (Places n) (set views by (joined v w)) other no_view
          (λ j u _ e. each_set (Places n) views by (joined v w) (λ i y _ is. k.placed i y is) (within-append n v.told w.told p.0 q.0, asked-append n v.tickets w.tickets p.1 q.1) j u e)
          (tt, tt);
      numbered = k.numbered;
      parts = join_same views by v at (λ u. u.parts) other w (joined v w) no_view there (omega arith) ∙ k.parts;
      told = λ weigh. join_same views by v at (λ u. sum_by weigh u.told) other w (joined v w) no_view there (omega (arith, sum_by-append weigh v.told w.told)) ∙ k.told weigh;
      asked = λ weigh.
          let x = join_same views by v at (λ u. sum_by weigh u.asked) other w (joined v w) no_view there (omega (arith, sum_by-append weigh v.asked w.asked)) in
          let y = join_same views by v at (λ u. sum_by weigh u.tickets) other w (joined v w) no_view there (omega (arith, sum_by-append weigh v.tickets w.tickets)) in
          let z = join_same views by v at (λ u. sum_by weigh u.given_up) other w (joined v w) no_view there (omega (arith, sum_by-append weigh v.given_up w.given_up)) in
          omega (arith, x, y, z, k.asked weigh);
    }

-- what is carried out next was asked before it
pub asked_before : (views : List View) (by : ℕ) (v : View) (e : Receipt) → v.keeps ≡ true → v.tickets ≡ e.ask ∷ [] → e.reply.place ≡ length v.history + 1 → Kept views → get_elem? views by ≡ some v → e.ask.after < e.reply.place
asked_before views by v e keeps may next k at =
    let mine = k.knows by v at keeps in
    let place : e.reply.place ≡ length k.history + 1 = next ∙ ap (λ (l : List Receipt). length l + 1) mine.1 in
    let within : AskedWithin (length k.history) (e.ask ∷ []) = subst (λ l. AskedWithin (length k.history) l) may (k.placed by v at).1 in
    omega (arith, place, within.0)

pub last_push : (n : ℕ) (rs : List Receipt) (r : Receipt) → last_or n (rs ++ r ∷ []) ≡ r.reply.place
last_push n [] r = refl
last_push n (x ∷ rs) r = last_push x.reply.place rs r
