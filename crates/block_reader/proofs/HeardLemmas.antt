-- What a reader of blocks has heard: lines that begin a block of the model's.
use Rattle.std.proofs.Common.{◌≡◌, ℕ, ◌+◌, Bool, true, false, List, [], ◌∷◌, ◌++◌, Ok, Some, None, refl, sym, subst, ap, ◌∙◌, append_assoc, append-nil}
use Rattle.std.specs.declared.option.Option.{Option}
use Rattle.std.specs.Option.{option_and_then}
use Rattle.evac_law.specs.declared.model.Model.{Model}
use Rattle.evac_law.specs.Building.{IsValid}
use Rattle.line_io.specs.Hearing.{HearsAll}
use Rattle.line_io.specs.declared.hearing.Heard.TheVariants.{More}
use Rattle.certificate_text.specs.declared.block.Block.{Block}
use Rattle.certificate_text.specs.declared.entry.Entry.{Entry}
use Rattle.certificate_text.specs.declared.entry.Entry.TheVariants as entries
use Rattle.block_reader.specs.declared.read.BlockReader.{BlockReader}
use Rattle.certificate_text.specs.BlockEntries.{entries_of}
use Rattle.certificate_text.specs.BlockReadings.{Begins, Says, as_said, said_by, says_something}
use Rattle.block_reader.specs.Drafts.{Draft, IsStated, no_draft, with_entry}
use Rattle.certificate_text.specs.Entries.{entry_of, is_end}
use Rattle.block_reader.specs.Takings.{HearsBlock}
use Rattle.block_reader.proofs.BlockLemmas.{stated-fits}
use Rattle.block_reader.proofs.BlockWalks.{block-walk, block_draft}
use Rattle.block_reader.proofs.DraftBlocks.{IsAt, at-next, at-none, can-end, full-says}
use Rattle.block_reader.proofs.DraftLemmas.{blank-stays, end-full}
use Rattle.block_reader.proofs.EntryLemmas.{entry-fits}
use Rattle.block_reader.proofs.OptionLemmas.{some-same}
use Rattle.certificate_text.proofs.SaidLemmas.{as_said-append, as_said-split, said_by-append, said_by-bad, said_by-blank, said_by-entry, said_by-nil}
use Rattle.block_reader.proofs.DraftTables.{is-stated, stated_block}
use Rattle.block_reader.proofs.Walks.{walk, walk-append, walk-cons}

-- lines led to a draft, and say what it says
pub record HasHeard (m : Model) (d : Draft) (texts : List (List ℕ)) : Type 0 where
  pub es : List Entry
  pub at : IsAt m d es
  pub heard : said_by texts ≡ as_said es

pub heard-none : (m : Model) → HasHeard m no_draft []
heard-none m = record { es = []; at = at-none m; heard = said_by-nil }

heard-by : (m : Model) (d new : Draft) (texts : List (List ℕ)) (text : List ℕ) (e : Entry) (b : Bool) → HasHeard m d texts → entry_of text ≡ Some e → is_end e ≡ false → with_entry m d e ≡ Some new
    → says_something (Some e) ≡ b → HasHeard m new (texts ++ (text ∷ []))
heard-by m d new texts text e true h is other took something = record {
  es = h.es ++ (e ∷ []);
  at = at-next m d h.es e new h.at (record { is_said = something; no_end = other }) (entry-fits text e is) took;
  heard = said_by-append texts (text ∷ []) ∙ ap (λ x. x ++ said_by (text ∷ [])) h.heard ∙ ap (λ x. as_said h.es ++ x) (said_by-entry text e is something) ∙ sym (as_said-append h.es (e ∷ []));
}
heard-by m d new texts text e false h is other took something = record {
  es = h.es;
  at = subst (λ (x : Draft). IsAt m x h.es) (some-same d new (sym (blank-stays m d e something) ∙ took)) h.at;
  heard = said_by-append texts (text ∷ []) ∙ ap (λ x. said_by texts ++ x) (said_by-blank text e is something) ∙ append-nil (said_by texts) ∙ h.heard;
}

-- a reader of the blocks of a model, that heard some lines
pub record IsHearing (m : Model) (r : BlockReader) (texts : List (List ℕ)) : Type 0 where
  pub of_model : r.model.now ≡ m
  pub so_far : HasHeard m r.builder texts

pub heard-more : (m : Model) (s s' : BlockReader) (n : ℕ) (texts : List (List ℕ)) (text : List ℕ) → IsHearing m s texts → HearsBlock s n text (Ok More) s' → IsHearing m s' (texts ++ (text ∷ []))
heard-more m s s' n texts text is (same, (e, says, other, took)) = record {
  of_model = same ∙ is.of_model;
  so_far = heard-by m s.builder s'.builder texts text e (says_something (Some e)) is.so_far says other (subst (λ (x : Model). with_entry x s.builder e ≡ Some s'.builder) is.of_model took) refl;
}

pub heard-all : (m : Model) (s s' : BlockReader) (n : ℕ) (before texts : List (List ℕ)) → IsHearing m s before → HearsAll HearsBlock s n texts s' → IsHearing m s' (before ++ texts)
unfolding HearsAll
heard-all m s s' n before [] is g = subst (λ (x : BlockReader). IsHearing m x (before ++ [])) (sym g) (subst (λ (x : List (List ℕ)). IsHearing m s x) (sym (append-nil before)) is)
heard-all m s s' n before (t ∷ ts) is g =
    subst (λ (x : List (List ℕ)). IsHearing m s' x) (append_assoc before (t ∷ []) ts) (heard-all m g.0 s' (n + 1) (before ++ (t ∷ [])) ts (heard-more m s g.0 (n + 1) before t is g.1) g.2)

-- ---- what such lines are

abbrev first_of : List Entry → Entry
first_of [] = entries.End
first_of (e ∷ es) = e

abbrev rest_of : List Entry → List Entry
rest_of [] = []
rest_of (e ∷ es) = es ++ (entries.End ∷ [])

with-end : (es : List Entry) → es ++ (entries.End ∷ []) ≡ first_of es ∷ rest_of es
with-end [] = refl
with-end (e ∷ es) = refl

-- they begin a block of the model's
pub heard-begins : (m : Model) (d : Draft) (texts : List (List ℕ)) → IsValid m → HasHeard m d texts → Begins m texts
heard-begins m d texts valid h =
    let c = can-end m d h.es valid h.at in
    let stated = is-stated m c.last c.at.draft.heads.in_horizon in
    let b = stated_block m c.last in
    let whole : entries_of m b ≡ h.es ++ (first_of c.left ∷ rest_of c.left) =
    full-says m c.last (h.es ++ c.left) b c.at c.full stated ∙ append_assoc h.es c.left (entries.End ∷ []) ∙ ap (λ x. h.es ++ x) (with-end c.left) in
    record {
      block = b;
      next = first_of c.left;
      left = rest_of c.left;
      says = record {
        is_block = stated-fits m c.last b c.at.draft c.full stated;
        all_labels = record { full = stated.labels.full };
        entries = ap as_said whole ∙ as_said-append h.es (first_of c.left ∷ rest_of c.left) ∙ ap (λ x. x ++ as_said (first_of c.left ∷ rest_of c.left)) (sym h.heard);
      };
    }

-- with the end of a full draft they say all of its block
pub heard-whole : (m : Model) (d new : Draft) (texts : List (List ℕ)) (text : List ℕ) (e : Entry) (b : Block) → HasHeard m d texts → entry_of text ≡ Some e → is_end e ≡ true
    → with_entry m d e ≡ Some new → IsStated m new b → Says m (texts ++ (text ∷ [])) b []
heard-whole m d new texts text e b h is ends took stated =
    let f = end-full m d e new ends took in
    let of_draft : IsStated m d b = subst (λ (x : Draft). IsStated m x b) f.2 stated in
    let last : said_by (text ∷ []) ≡ as_said (entries.End ∷ []) = said_by-entry text entries.End (is ∙ ap (λ x. Some x) f.0) refl in
    record {
      is_block = stated-fits m d b h.at.draft f.1 of_draft;
      all_labels = record { full = of_draft.labels.full };
      entries = ap as_said (full-says m d h.es b h.at f.1 of_draft) ∙ as_said-append h.es (entries.End ∷ []) ∙ ap (λ x. x ++ as_said (entries.End ∷ [])) (sym h.heard)
          ∙ ap (λ x. said_by texts ++ x) (sym last) ∙ sym (said_by-append texts (text ∷ [])) ∙ sym (append-nil (said_by (texts ++ (text ∷ []))));
    }

-- ---- with a line that isn't taken they begin none

none-taken : (m : Model) (d : Draft) (es : List Entry) (e : Entry) (left : List Entry) (last : Draft) → walk m no_draft es ≡ Some d → with_entry m d e ≡ None
    → walk m no_draft (es ++ (e ∷ left)) ≡ Some last → ⊥
none-taken m d es e left last at none h =
    let z : None ≡ Some last =
    sym (walk-append m no_draft es (e ∷ left) ∙ ap (option_and_then (λ x. walk m x (e ∷ left))) at ∙ walk-cons m d e left ∙ ap (option_and_then (λ x. walk m x left)) none) ∙ h in cc

bad-entry : (ws : List Entry) (zs : List (Option Entry)) → as_said ws ≡ None ∷ zs → ⊥
bad-entry [] zs e = cc
bad-entry (w ∷ ws) zs e = cc

good-entry : (ws : List Entry) (e : Entry) (left : List Entry) → as_said ws ≡ as_said (e ∷ left) → (more : List Entry) × (ws ≡ e ∷ more)
good-entry [] e left h = cc
good-entry (w ∷ ws) e left h = let first : w ≡ e = cc in (ws, ap (λ x. x ∷ ws) first)

-- what such lines with one more say of a block, by what the draft takes
says-behind : (m : Model) (d : Draft) (texts : List (List ℕ)) (text : List ℕ) (b : Block) (left : List Entry) (h : HasHeard m d texts) → Says m (texts ++ (text ∷ [])) b left
    → (ws : List Entry) × (entries_of m b ≡ h.es ++ ws) × (as_said ws ≡ said_by (text ∷ []) ++ as_said left)
says-behind m d texts text b left h says =
    as_said-split (entries_of m b) h.es (said_by (text ∷ []) ++ as_said left)
    (says.entries ∙ ap (λ x. x ++ as_said left) (said_by-append texts (text ∷ []) ∙ ap (λ x. x ++ said_by (text ∷ [])) h.heard) ∙ append_assoc (as_said h.es) (said_by (text ∷ [])) (as_said left))

refused-entry : (m : Model) (d : Draft) (texts : List (List ℕ)) (text : List ℕ) (e : Entry) (w : Bool) → IsValid m → HasHeard m d texts → entry_of text ≡ Some e → with_entry m d e ≡ None
    → says_something (Some e) ≡ w → (b : Block) (left : List Entry) → Says m (texts ++ (text ∷ [])) b left → ⊥
refused-entry m d texts text e false valid h is none blank b left says = let z : None ≡ Some d = sym none ∙ blank-stays m d e blank in cc
refused-entry m d texts text e true valid h is none something b left says =
    let s = says-behind m d texts text b left h says in
    let g = good-entry s.0 e left (s.2 ∙ ap (λ x. x ++ as_said left) (said_by-entry text e is something)) in
    none-taken m d h.es e g.0 (block_draft m b) h.at.walks none (ap (walk m no_draft) (sym (s.1 ∙ ap (λ x. h.es ++ x) g.1)) ∙ block-walk m b valid says.is_block)

refused-by : (m : Model) (d : Draft) (texts : List (List ℕ)) (text : List ℕ) (o : Option Entry) → IsValid m → HasHeard m d texts → entry_of text ≡ o → option_and_then (with_entry m d) o ≡ None
    → (b : Block) (left : List Entry) → Says m (texts ++ (text ∷ [])) b left → ⊥
refused-by m d texts text None valid h is none b left says =
    let s = says-behind m d texts text b left h says in bad-entry s.0 (as_said left) (s.2 ∙ ap (λ x. x ++ as_said left) (said_by-bad text is))
refused-by m d texts text (Some e) valid h is none b left says = refused-entry m d texts text e (says_something (Some e)) valid h is none refl b left says

pub heard-refused : (m : Model) (d : Draft) (texts : List (List ℕ)) (text : List ℕ) → IsValid m → HasHeard m d texts → option_and_then (with_entry m d) (entry_of text) ≡ None
    → (b : Block) (left : List Entry) → ¬ Says m (texts ++ (text ∷ [])) b left
heard-refused m d texts text valid h none b left says = refused-by m d texts text (entry_of text) valid h refl none b left says
