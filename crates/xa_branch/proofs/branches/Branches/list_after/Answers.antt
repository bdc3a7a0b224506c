use Rattle.std.proofs.Common.{◌≡◌, ◌++◌, [], Bool, ◌&&◌, true, false, List, ap, sym, ◌∙◌, refl}
use Rattle.std.specs.Prelude.{filter, take, option_copied}
use Rattle.std.specs.BTreeMap.Range.{is_from_start}
use Rattle.std.specs.Map.{keys_of}
use Rattle.std.specs.Range.Bound.{bound_map}
use Rattle.std.proofs.lemmas.List.{append-nil}
use Rattle.xa_xid.specs.Triple.{Triple, xid_cmp}
use Rattle.xa_model.specs.Listed.{is_above}
use Rattle.xa_branch.proofs.Listing.{above, keys_filtered, taken_more, taken_all, listed_same, few_taken}
use Rattle.xa_branch.proofs.NoRooms.{no_rooms}
use Rattle.xa_branch.proofs.branches.Branches.list_after.Goals as goal

and_true : (b : Bool) → (b && true) ≡ b
and_true true = refl
and_true false = refl

pub loop-xid-init : goal.loop-xid-init
loop-xid-init c =
    let after = option_copied c.args.after in
    let kept = c.args.self.now.lasting in
    let bound = bound_map (λ x. x.now) c.above.result in
    let part : keys_of c.range.result ≡ above after kept =
    ap keys_of (c.range.ensures.between tt)
    ∙ keys_filtered (λ q. is_from_start xid_cmp bound q && true) (is_above after) (λ q. and_true (is_from_start xid_cmp bound q) ∙ c.above.ensures q) kept.entries in
    rw (c.in_ok-listed.ensures.items, c.into_iter-xid-iterator.ensures.into_iter_gives, c.take-xid-items.ensures.source, c.take-xid-items.ensures.count, part) refl

pub loop-xid-preserved : goal.loop-xid-preserved
loop-xid-preserved c =
    let l = c.loop-xid in
    taken_more l.listed.items c.push.new.self.items c.in-Some.xid.now c.copied.result c.in-Some.field-0-1.now l.xid-iterator.n c.next.new.self.n l.xid-iterator.iter c.next.new.self.iter c.copied.ensures
    c.in_ok-push.ensures.items c.in-Some.ensures.steps.0 c.in-Some.ensures.steps.1
    ∙ l.invariant

pub returns-clause-few : goal.returns-clause-few
returns-clause-few c =
    let l = c.loop-xid in
    let all : take l.xid-iterator.n (keys_of l.xid-iterator.iter) ≡ [] = taken_all l.xid-iterator.n l.xid-iterator.iter (λ some. (c.in-None.ensures.steps some).0) in
    few_taken l.listed.items _ c.args.count (sym (append-nil l.listed.items) ∙ (sym (ap (λ (xs : List Triple). l.listed.items ++ xs) all) ∙ l.invariant))

pub returns-clause-listed : goal.returns-clause-listed
returns-clause-listed c = λ s h st.
    let l = c.loop-xid in
    let all : take l.xid-iterator.n (keys_of l.xid-iterator.iter) ≡ [] = taken_all l.xid-iterator.n l.xid-iterator.iter (λ some. (c.in-None.ensures.steps some).0) in
    sym (append-nil l.listed.items)
    ∙ (sym (ap (λ (xs : List Triple). l.listed.items ++ xs) all)
    ∙ (l.invariant ∙ ap (λ (xs : List Triple). take c.args.count (filter (is_above (option_copied c.args.after)) xs)) (listed_same c.args.self.now s h st (no_rooms c.args.self.now s h st (c.has_rooms.ensures c.if-has_rooms.false)) c.range.ensures.ordered)))
