-- What a token of each kind knows.
use Rattle.std.specs.Prelude.{ℕ, pos, true, false, List, [], ◌∷◌}
use Rattle.atomic_table.specs.Seated.{TableId}
use Rattle.xa_frame.specs.Made.{plain}
use Rattle.xa_model.specs.declared.event.Event.TheVariants.{Connect}
use Rattle.xa_tokens.specs.declared.ask.Ask.{Ask}
use Rattle.xa_tokens.specs.declared.receipt.Receipt.{Receipt}
use Rattle.xa_tokens.specs.declared.view.View.{View}
use Rattle.xa_tokens.specs.Believed.Account.{Account}
use Rattle.xa_tokens.specs.Believed.Receipts.{ask_of, receipt_of}

-- into how many parts all shares can be cut
abbrev pub all_parts : ℕ
all_parts = 1024

-- the name of no table
abbrev pub no_table : TableId
no_table = record { words = 0; slots = 0; views_name = 0; atom = 0; block = 0; offset = 0; slot_names = [] }

-- an ask and an entry that stand for none
abbrev pub no_ask : Ask
no_ask = ask_of Connect 0

abbrev pub no_receipt : Receipt
no_receipt = receipt_of no_ask (plain (pos 0))

abbrev pub no_view : View
no_view = record { keeps = false; history = []; parts = 0; asked = []; told = []; tickets = []; given_up = [] }

-- the whole history
abbrev pub keeper_view : List Receipt → View
keeper_view history = record no_view { keeps = true; history = history }

abbrev pub share_view : Account → View
share_view a = record no_view { parts = a.parts; asked = a.asked; told = a.told; given_up = a.given_up }

-- the right to carry out one ask, once
abbrev pub ticket_view : Ask → View
ticket_view ask = record no_view { tickets = ask ∷ [] }

-- one entry of the history, which is nobody else's
abbrev pub told_view : Receipt → View
told_view r = record no_view { told = r ∷ [] }

-- the first token: the keeper and all shares, before anything is asked
abbrev pub first_view : View
first_view = record no_view { keeps = true; parts = all_parts }

abbrev pub first_or : {A : Type 0} → A → List A → A
first_or none [] = none
first_or none (x ∷ xs) = x

-- the ask of a ticket
abbrev pub the_ask : View → Ask
the_ask v = first_or no_ask v.tickets

-- the entry that was told
abbrev pub the_receipt : View → Receipt
the_receipt v = first_or no_receipt v.told
