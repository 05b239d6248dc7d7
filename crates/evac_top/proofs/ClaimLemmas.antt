-- What an input with a block says, by its parts, and how a checked block ends a run.
use Rattle.std.proofs.Common.{◌≡◌, ◌≤◌, arith, ℕ, List, Ok, Err, Some, None, refl, sym, ap, subst}
use Rattle.std.specs.declared.option.Option.{Option}
use Rattle.evac_law.specs.declared.code.Code.{Code}
use Rattle.line_io.specs.Line.{Line, lines_of}
use Rattle.line_io.specs.Reader.{lines_left}
use Rattle.line_io.specs.View.{Reader}
use Rattle.evac_law.specs.declared.model.Model.{Model}
use Rattle.evac_law.specs.Building.{IsValid}
use Rattle.evac_law.proofs.Optimal.{certified_is_best}
use Rattle.building_table.specs.Passes.{ReadsModel}
use Rattle.building_table.specs.declared.building.Building.{Building}
use Rattle.building_table.specs.declared.faults.ModelFault.{ModelFault}
use Rattle.building_table.specs.declared.faults.ModelFault.TheVariants.{Named, ReadFault, Memory}
use Rattle.certificate_text.specs.declared.block.Block.{Block}
use Rattle.block_reader.specs.declared.fault.BlockFault.{BlockFault}
use Rattle.block_reader.specs.declared.fault.BlockFault.TheVariants as block_faults
use Rattle.certificate_text.specs.Block.{IsBlockOf}
use Rattle.certificate_text.specs.BlockReadings as blocks
use Rattle.certificate_text.specs.BlockReadings.{ReadsAs}
use Rattle.block_reader.specs.BlockReads.{ReadsBlock}
use Rattle.plan_checker.specs.declared.verdict.Verdict.{Verdict}
use Rattle.plan_checker.specs.declared.verdict.Verdict.TheVariants.{Yes, RateBroken, HeldBroken}
use Rattle.plan_checker.specs.Verdicts.{IsRight, IsVerdict}
use Rattle.plan_checker.proofs.LawLemmas.{one_verdict, yes_is_certified}
use Rattle.evac_top.specs.Accounts.{Account, Told}
use Rattle.evac_top.specs.Answers.{runs_of}
use Rattle.evac_top.specs.Check.{IsChecked, IsVerdictOf, verdict_status, verdict_text}
use Rattle.evac_top.specs.Inputs.{Claimed, ClaimsBehind, unless_fault}
use Rattle.evac_top.specs.Reads.{ClaimIs, IsFresh, ReadsTail, block_fault}
use Rattle.evac_top.specs.declared.claim.Claim.{Claim}
use Rattle.evac_top.specs.declared.words.Mode.TheVariants.{Check}
use Rattle.evac_top.proofs.InputLemmas.{told-model}
use Rattle.evac_top.proofs.TellLemmas.{FaultIs}

-- ---- reading

-- the building and the block are there, and nothing after them
said-claim : (building : Building) (block : Block) (n1 n2 : ℕ) (bytes : List ℕ) (b c : Option (List Line))
    → ReadsModel (Ok building) 0 n1 (Some (lines_of bytes)) b → ReadsBlock building.model (Ok block) n1 n2 b c → ReadsTail (Ok tt) n2 c
    → ClaimIs (Ok (record { building = building; block = block })) bytes
said-claim building block n1 n2 bytes None c h g f = absurd h
said-claim building block n1 n2 bytes (Some x) None h g f = absurd g
said-claim building block n1 n2 bytes (Some x) (Some y) (d, e, is) stated none =
    let claimed : Claimed = record { building = d; block = block } in
    let here = subst (λ (m : Model). ReadsAs m n1 x (blocks.Stated block n2 y)) is.model stated in (
      claimed,
      subst (λ r. ClaimsBehind r (Ok claimed)) (sym e) (blocks.Stated block n2 y, here, sym (ap (λ f. unless_fault f claimed) none)),
      is,
      refl,
    )

-- the model is refused
pub said-model-fault : (code : Code) (line n1 : ℕ) (bytes : List ℕ) (b : Option (List Line)) → ReadsModel (Err (Named code line)) 0 n1 (Some (lines_of bytes)) b
    → ClaimIs (Err (Named code line)) bytes
said-model-fault code line n1 bytes None h = absurd h
said-model-fault code line n1 bytes (Some x) h = subst (λ r. ClaimsBehind r (Err (code, line))) (sym h) refl

-- the block is refused
block-refused : (building : Building) (n1 : ℕ) (code : Code) (line : ℕ) (bytes : List ℕ) (x y : List Line) → ReadsModel (Ok building) 0 n1 (Some (lines_of bytes)) (Some x)
    → ReadsAs building.model n1 x (blocks.Refused code line) → ClaimIs (Err (Named code line)) bytes
block-refused building n1 code line bytes x y (d, e, is) refused =
    let here = subst (λ (m : Model). ReadsAs m n1 x (blocks.Refused code line)) is.model refused in
    subst (λ r. ClaimsBehind r (Err (code, line))) (sym e) (blocks.Refused code line, here, refl)

said-block-fault : (building : Building) (fault : BlockFault) (n1 n2 : ℕ) (bytes : List ℕ) (b c : Option (List Line))
    → ReadsModel (Ok building) 0 n1 (Some (lines_of bytes)) b → ReadsBlock building.model (Err fault) n1 n2 b c → ClaimIs (Err (block_fault fault)) bytes
said-block-fault building fault n1 n2 bytes None c h g = absurd h
said-block-fault building fault n1 n2 bytes (Some x) None h g = absurd g
said-block-fault building (block_faults.Bad line) n1 n2 bytes (Some x) (Some y) h g = block-refused building n1 _ line bytes x y h g
said-block-fault building (block_faults.LineTooLong line) n1 n2 bytes (Some x) (Some y) h g = block-refused building n1 _ line bytes x y h g
said-block-fault building (block_faults.InputTooLong line) n1 n2 bytes (Some x) (Some y) h g = block-refused building n1 _ line bytes x y h g
said-block-fault building block_faults.ReadFault n1 n2 bytes (Some x) (Some y) h g = tt
said-block-fault building block_faults.Memory n1 n2 bytes (Some x) (Some y) h g = tt

-- a line after the block is refused
said-tail-fault : (building : Building) (block : Block) (code : Code) (line n1 n2 : ℕ) (bytes : List ℕ) (b c : Option (List Line))
    → ReadsModel (Ok building) 0 n1 (Some (lines_of bytes)) b → ReadsBlock building.model (Ok block) n1 n2 b c → ReadsTail (Err (Named code line)) n2 c
    → ClaimIs (Err (Named code line)) bytes
said-tail-fault building block code line n1 n2 bytes None c h g f = absurd h
said-tail-fault building block code line n1 n2 bytes (Some x) None h g f = absurd g
said-tail-fault building block code line n1 n2 bytes (Some x) (Some y) (d, e, is) stated fault =
    let claimed : Claimed = record { building = d; block = block } in
    let here = subst (λ (m : Model). ReadsAs m n1 x (blocks.Stated block n2 y)) is.model stated in
    subst (λ r. ClaimsBehind r (Err (code, line))) (sym e) (blocks.Stated block n2 y, here, sym (ap (λ f. unless_fault f claimed) fault))

-- what is said of the lines after a block
said-tail : (building : Building) (block : Block) (fault : ModelFault) (n1 n2 : ℕ) (bytes : List ℕ) (b c : Option (List Line))
    → ReadsModel (Ok building) 0 n1 (Some (lines_of bytes)) b → ReadsBlock building.model (Ok block) n1 n2 b c → ReadsTail (Err fault) n2 c
    → ClaimIs (Err fault) bytes
said-tail building block (Named code line) n1 n2 bytes b c h g f = said-tail-fault building block code line n1 n2 bytes b c h g f
said-tail building block ReadFault n1 n2 bytes b c h g f = tt
said-tail building block Memory n1 n2 bytes b c h g f = tt

-- ---- the same by a fresh reader

pub told-block-fault : (r : Reader) (left : Option (List ℕ)) (building : Building) (found : ModelFault) (fault : BlockFault) (n1 n2 : ℕ)
    (b c : Option (List Line)) → found ≡ block_fault fault → IsFresh r → ReadsModel (Ok building) r.number n1 (lines_left r left) b
    → ReadsBlock building.model (Err fault) n1 n2 b c → Told left (ClaimIs (Err found))
told-block-fault r left building found fault n1 n2 b c is fresh h g =
    told-model r left building n1 b (ClaimIs (Err found)) fresh h (λ bytes read.
    subst (λ (f : ModelFault). ClaimIs (Err f) bytes) (sym is) (said-block-fault building fault n1 n2 bytes b c read g))

pub told-claim : (r : Reader) (left : Option (List ℕ)) (building : Building) (block : Block) (n1 n2 : ℕ) (b c : Option (List Line))
    → IsFresh r → ReadsModel (Ok building) r.number n1 (lines_left r left) b → ReadsBlock building.model (Ok block) n1 n2 b c → ReadsTail (Ok tt) n2 c
    → Told left (ClaimIs (Ok (record { building = building; block = block })))
told-claim r left building block n1 n2 b c fresh h g f =
    told-model r left building n1 b (ClaimIs (Ok (record { building = building; block = block }))) fresh h
    (λ bytes read. said-claim building block n1 n2 bytes b c read g f)

pub told-tail : (r : Reader) (left : Option (List ℕ)) (building : Building) (block : Block) (fault : ModelFault) (n1 n2 : ℕ) (b c : Option (List Line))
    → IsFresh r → ReadsModel (Ok building) r.number n1 (lines_left r left) b → ReadsBlock building.model (Ok block) n1 n2 b c → ReadsTail (Err fault) n2 c
    → Told left (ClaimIs (Err fault))
told-tail r left building block fault n1 n2 b c fresh h g f =
    told-model r left building n1 b (ClaimIs (Err fault)) fresh h (λ bytes read. said-tail building block fault n1 n2 bytes b c read g f)

-- ---- checking

yes-by : (v : Verdict) → verdict_status v ≡ 0 → v ≡ Yes
yes-by Yes e = refl
yes-by _ e = cc

pub status-few : (v : Verdict) → verdict_status v ≤ 1
status-few v = grind arith

pub status-small : (v : Verdict) → verdict_status v ≤ 2
status-small v = omega (arith, status-few v)

-- a verdict is the answer to its block
pub checked : (m : Model) (b : Block) (v : Verdict) (taken : List ℕ) → IsValid m → IsBlockOf m b → IsVerdict m b v
    → IsChecked m b (record { status = verdict_status v; taken = taken; written = verdict_text m v; steps = 0 })
checked m b v taken valid of first =
    let law = yes_is_certified m b valid of in
    let right : verdict_status v ≡ 0 → IsRight m b = λ e. law.0 (subst (IsVerdict m b) (yes-by v e) first) in
    record {
      verdict = v;
      first = first;
      ends = record { over = refl; text_whole = refl; counted = refl };
      yes = right;
      right = λ r. ap verdict_status (one_verdict m b v Yes first (law.1 r));
      best = λ e other k f. certified_is_best m b.moves b.labels b.cleared valid (right e).certified other k f;
    }

pub checked-few : (m : Model) (b : Block) (x : Account) → IsChecked m b x → x.status ≤ 1
checked-few m b x h = omega (arith, h.ends.over, status-few h.verdict)

-- the place of a verdict is the model's
pub verdict-of : (m : Model) (b : Block) (v : Verdict) → IsVerdict m b v → IsVerdictOf m v
verdict-of m b (RateBroken t a) h = h.1.arc_in
verdict-of m b (HeldBroken t n) h = h.2.node_in
verdict-of m b _ h = tt

pub said-checked : (claim : Claim) (bytes : List ℕ) → ClaimIs (Ok claim) bytes → (x : Account) → x.taken ≡ bytes → IsChecked claim.building.model claim.block x
    → (runs_of (Some Check)).Answers bytes x
unfolding runs_of
said-checked claim bytes (c, e, is, same) x all checked =
    (Ok c, e, (all, subst (λ (b : Block). IsChecked c.building.model b x) (sym same) (subst (λ (m : Model). IsChecked m claim.block x) is.model checked)))

pub check-fault : (fault : ModelFault) (bytes : List ℕ) → ClaimIs (Err fault) bytes → FaultIs Check fault bytes
unfolding runs_of
check-fault (Named code line) bytes e = λ x is. (Err (code, line), e, is)
check-fault ReadFault bytes e = tt
check-fault Memory bytes e = tt
