-- The numbers of a line are in range.
use Rattle.std.proofs.Common.{◌≡◌, ℕ, ◌≤◌, Bool, true, false, cond, List, [], ◌∷◌, Some, None, refl, subst, codes}
use Rattle.std.specs.declared.option.Option.{Option}
use Rattle.std.specs.Option.{option_and_then}
use Rattle.std.specs.Str.{bytes_eq}
use Rattle.model_text.specs.Fields.{fields_of}
use Rattle.model_text.specs.Grammar.{is_comment}
use Rattle.model_text.specs.NameFields.{name_of}
use Rattle.model_text.specs.Numbers.{field_number}
use Rattle.certificate_text.specs.declared.entry.Entry.{Entry}
use Rattle.certificate_text.specs.declared.entry.Entry.TheVariants.{Blank, Index, People, Cleared, Out, Label, Move, End}
use Rattle.certificate_text.specs.Block.{number_field_limit}
use Rattle.block_reader.proofs.DraftEntries.{IsEntry}
use Rattle.certificate_text.specs.Entries.{entry_by_word, end_entry, entry_of, label_entry, move_entry, entry_of_fields, one_number, out_entry}
use Rattle.block_reader.proofs.NumberFits.{number-fits}
use Rattle.block_reader.proofs.OptionLemmas.{some-same}

fits-some : (x : Entry) → IsEntry x → (e : Entry) → Some x ≡ Some e → IsEntry e
fits-some x h e q = subst IsEntry (some-same x e q) h

-- where each value that follows gives such an entry
then-fits : {A : Type 0} (o : Option A) (f : A → Option Entry) → ((x : A) → o ≡ Some x → (e : Entry) → f x ≡ Some e → IsEntry e) → (e : Entry) → option_and_then f o ≡ Some e → IsEntry e
then-fits None f h e q = cc
then-fits (Some x) f h e q = h x refl e q

one-fits : (make : ℕ → Entry) → ((n : ℕ) → n ≤ number_field_limit → IsEntry (make n)) → (fields : List (List ℕ)) (e : Entry)
    → option_and_then (λ n. Some (make n)) (one_number fields) ≡ Some e → IsEntry e
one-fits make fits (a ∷ []) e h = then-fits (field_number a) (λ n. Some (make n)) (λ n is. fits-some (make n) (fits n (number-fits a n is))) e h
one-fits make fits _ e h = cc

out-fits : (fields : List (List ℕ)) (e : Entry) → out_entry fields ≡ Some e → IsEntry e
out-fits (a ∷ b ∷ []) e h = then-fits (field_number a) _ (λ k _. then-fits (field_number b) _ (λ n is. fits-some (Out k n) (number-fits b n is))) e h
out-fits _ e h = cc

label-fits : (fields : List (List ℕ)) (e : Entry) → label_entry fields ≡ Some e → IsEntry e
label-fits (a ∷ b ∷ d ∷ []) e h =
    then-fits (name_of a) _ (λ n _. then-fits (field_number b) _ (λ t _. then-fits (field_number d) _ (λ v is. fits-some (Label n t v) (number-fits d v is)))) e h
label-fits _ e h = cc

move-fits : (fields : List (List ℕ)) (e : Entry) → move_entry fields ≡ Some e → IsEntry e
move-fits (a ∷ b ∷ d ∷ x ∷ []) e h =
    then-fits (field_number a) _ (λ t _. then-fits (name_of b) _ (λ i _. then-fits (name_of d) _
    (λ j _. then-fits (field_number x) _ (λ n is. fits-some (Move t i j n) (number-fits x n is))))) e h
move-fits _ e h = cc

end-fits : (fields : List (List ℕ)) (e : Entry) → end_entry fields ≡ Some e → IsEntry e
end-fits [] e h = fits-some End tt e h
end-fits (a ∷ more) e h = cc

either-fits : (t : Bool) (a b : Option Entry) → ((e : Entry) → a ≡ Some e → IsEntry e) → ((e : Entry) → b ≡ Some e → IsEntry e) → (e : Entry) → cond t a b ≡ Some e → IsEntry e
either-fits true a b f g e h = f e h
either-fits false a b f g e h = g e h

word-fits : (word : List ℕ) (more : List (List ℕ)) (e : Entry) → entry_by_word word more ≡ Some e → IsEntry e
word-fits word more =
    either-fits (is_comment word) _ _ (fits-some Blank tt)
    (either-fits (bytes_eq word (codes "answer")) _ _ (one-fits Index (λ n l. l) more)
    (either-fits (bytes_eq word (codes "people")) _ _ (one-fits People (λ n l. l) more)
    (either-fits (bytes_eq word (codes "cleared")) _ _ (one-fits Cleared (λ n l. l) more)
    (either-fits (bytes_eq word (codes "out")) _ _ (out-fits more)
    (either-fits (bytes_eq word (codes "label")) _ _ (label-fits more)
    (either-fits (bytes_eq word (codes "move")) _ _ (move-fits more)
    (either-fits (bytes_eq word (codes "end")) _ _ (end-fits more) (λ e h. cc))))))))

fields-fit : (fields : List (List ℕ)) (e : Entry) → entry_of_fields fields ≡ Some e → IsEntry e
fields-fit [] e h = fits-some Blank tt e h
fields-fit (word ∷ more) e h = word-fits word more e h

pub entry-fits : (line : List ℕ) (e : Entry) → entry_of line ≡ Some e → IsEntry e
unfolding entry_of
entry-fits line e h = fields-fit (fields_of line) e h
