-- What a check and a look-up answer on paper: #103's number of the refusal, 0 where nothing is refused, and the values. Assumes nothing.
use Rattle.std.specs.Prelude.{ℕ, [], ◌∷◌, Some, None, Ok, Err}
use Rattle.octets.specs.Answer.{Answer}
use Rattle.names.specs.declared.Which.{Which}
use Rattle.names.specs.declared.Which.TheVariants as which
use Rattle.names.specs.Book.{number_of, Checked}
use Rattle.names.specs.LookUp.{Shown}

-- a refusal with the faulty entry
unfoldable pub checked_says : Checked → Answer
checked_says (Ok sound) = record { number = 0; values = [] }
checked_says (Err why) = record { number = number_of why.fault; values = why.entry ∷ [] }

-- book 1 is the chosen one, book 2 the Italian one
abbrev pub book_number : Which → ℕ
book_number which.Chosen = 1
book_number which.Italian = 2

-- a refusal with the book and its faulty entry, a name with the book and its entry
unfoldable pub shown_says : Shown → Answer
shown_says (Err r) = record { number = number_of r.why.fault; values = book_number r.book ∷ r.why.entry ∷ [] }
shown_says (Ok (Some n)) = record { number = 0; values = book_number n.book ∷ n.entry ∷ [] }
shown_says (Ok None) = record { number = 0; values = [] }
