-- Calls of a group are on distinct XIDs, so none is replied twice.
use Rattle.std.proofs.Common.{◌≡◌, ◌∙◌, ℕ, false, List, [], ◌∷◌, map, Option, Some, sym, ap}
use Rattle.std.specs.List.{AllByRecursion}
use Rattle.xa_frame.specs.declared.reply.Reply.{Reply}
use Rattle.xa_frame.specs.declared.request.Request.{Request}
use Rattle.xa_xid.specs.Triple.{Triple, xid_eq}
use Rattle.xa_xid.proofs.Same.{xid_eq_same}
use Rattle.xa_model.specs.declared.outcome.Appending.{Appending}
use Rattle.xa_manager.specs.declared.together.Asked.{Asked}
use Rattle.xa_manager.specs.Once.{AreOnce}
use Rattle.xa_manager.specs.GroupAnswers.{AreReplies}
use Rattle.xa_manager.specs.Believed.Together.{Member, asked_at}

abbrev pub AreNamedApart : List Triple → Type 0
AreNamedApart [] = Unit {0}
AreNamedApart (xid ∷ xids) = AllByRecursion (λ q. xid_eq xid q ≡ false) xids × AreNamedApart xids

-- by whichever way an XID is told by a request
module _ (xid_in : Request → Option Triple) (calls : List Asked) (a : Appending) where
  apart_from : (at : ℕ) (c : Member) → (asked_at calls at).request ≡ c.request → xid_in c.request ≡ Some c.xid
      → (cs : List Member) (rs : List (ℕ × Reply)) → AreReplies calls a cs rs → AllByRecursion (λ d. xid_in d.request ≡ Some d.xid) cs
      → AllByRecursion (λ q. xid_eq c.xid q ≡ false) (map (λ d. d.xid) cs) → AllByRecursion (λ q. q.0 ≡ at → ⊥) rs
  apart_from at c is of [] [] h ofs apart = tt
  apart_from at c is of [] (r ∷ rs) h ofs apart = absurd h
  apart_from at c is of (d ∷ ds) [] h ofs apart = absurd h
  apart_from at c is of (d ∷ ds) (r ∷ rs) h ofs apart = (
    λ same.
        let one : c.request ≡ d.request = sym is ∙ ap (λ (n : ℕ). (asked_at calls n).request) (sym same) ∙ h.0.request in
        let both : Some c.xid ≡ Some d.xid = sym of ∙ ap xid_in one ∙ ofs.0 in
        let equal : c.xid ≡ d.xid = cc both in
        cc (apart.0, xid_eq_same c.xid d.xid equal),
    apart_from at c is of ds rs h.1 ofs.1 apart.1,
  )

  pub are_once : (cs : List Member) (rs : List (ℕ × Reply)) → AreReplies calls a cs rs → AllByRecursion (λ d. xid_in d.request ≡ Some d.xid) cs
      → AreNamedApart (map (λ d. d.xid) cs) → AreOnce rs
  are_once [] [] h ofs apart = tt
  are_once [] (r ∷ rs) h ofs apart = absurd h
  are_once (d ∷ ds) [] h ofs apart = absurd h
  are_once (d ∷ ds) (r ∷ rs) h ofs apart =
      (apart_from r.0 d h.0.request ofs.0 ds rs h.1 ofs.1 apart.0, are_once ds rs h.1 ofs.1 apart.1)
