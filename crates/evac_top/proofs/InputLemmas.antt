-- What an input says, by its parts.
use Rattle.std.proofs.Common.{◌≡◌, ℕ, List, Ok, Err, Some, None, ap, subst, ◌∙◌}
use Rattle.std.specs.declared.option.Option.{Option}
use Rattle.line_io.specs.Line.{Line, lines_of}
use Rattle.line_io.specs.Reader.{lines_left}
use Rattle.line_io.specs.View.{Reader}
use Rattle.building_table.specs.Passes.{ReadsModel}
use Rattle.building_table.specs.declared.building.Building.{Building}
use Rattle.building_table.specs.declared.faults.ModelFault.{ModelFault}
use Rattle.building_table.specs.declared.faults.ModelFault.TheVariants.{Named, ReadFault, Memory}
use Rattle.evac_top.specs.Inputs.{Asked, input_by, unless_fault}
use Rattle.evac_top.specs.Reads.{InputIs, IsFresh, ReadsTail}
use Rattle.evac_top.specs.Accounts.{Told}

-- the building that a fresh reader gave is that of the bytes
pub told-model : (r : Reader) (left : Option (List ℕ)) (building : Building) (n : ℕ) (b : Option (List Line)) (P : List ℕ → Type 0) → IsFresh r
    → ReadsModel (Ok building) r.number n (lines_left r left) b → ((bytes : List ℕ) → ReadsModel (Ok building) 0 n (Some (lines_of bytes)) b → P bytes)
    → Told left P
told-model r None building n b P fresh h f = tt
told-model r (Some bytes) building n b P fresh h f =
    f bytes (subst (λ (x : Reader). ReadsModel (Ok building) x.number n (lines_left x (Some bytes)) b) fresh h)

-- the building is there, and nothing after it
said-input : (building : Building) (last n : ℕ) (bytes : List ℕ) (b : Option (List Line))
    → ReadsModel (Ok building) 0 n (Some (lines_of bytes)) b → ReadsTail (Ok tt) n b → last ≡ n
    → InputIs (Ok (record { building = building; last = last })) bytes
said-input building last n bytes None h f same = absurd h
said-input building last n bytes (Some x) (d, e, is) none same =
    let asked : Asked = record { building = d; last = n } in
    (asked, ap input_by e ∙ ap (λ f. unless_fault f asked) none, is, same)

-- the same by a fresh reader
pub told-building : (r : Reader) (left : Option (List ℕ)) (building : Building) (last n : ℕ) (b : Option (List Line)) → IsFresh r
    → ReadsModel (Ok building) r.number n (lines_left r left) b → ReadsTail (Ok tt) n b → last ≡ n → Told left (InputIs (Ok (record { building = building; last = last })))
told-building r left building last n b fresh h f same =
    told-model r left building n b (InputIs (Ok (record { building = building; last = last }))) fresh h (λ bytes read. said-input building last n bytes b read f same)

-- a line after the building is refused
said-fault : (building : Building) (fault : ModelFault) (n : ℕ) (bytes : List ℕ) (b : Option (List Line)) → ReadsModel (Ok building) 0 n (Some (lines_of bytes)) b
    → ReadsTail (Err fault) n b → InputIs (Err fault) bytes
said-fault building (Named code line) n bytes None h f = absurd h
said-fault building (Named code line) n bytes (Some x) (d, e, is) f =
    let asked : Asked = record { building = d; last = n } in ap input_by e ∙ ap (λ k. unless_fault k asked) f
said-fault building ReadFault n bytes b h f = tt
said-fault building Memory n bytes b h f = tt

pub told-fault : (r : Reader) (left : Option (List ℕ)) (building : Building) (fault : ModelFault) (n : ℕ) (b : Option (List Line)) → IsFresh r
    → ReadsModel (Ok building) r.number n (lines_left r left) b → ReadsTail (Err fault) n b → Told left (InputIs (Err fault))
told-fault r left building fault n b fresh h f = told-model r left building n b (InputIs (Err fault)) fresh h (λ bytes read. said-fault building fault n bytes b read f)
