-- A request has one answer or one fault.
use Rattle.std.proofs.Common.{◌≡◌, ℕ, suc, ◌⊎◌, Bool, true, false, List, [], ◌∷◌, ◌++◌, refl, sym, ap, subst, ◌∙◌, inl, inr, MatchBool}
use Rattle.std.specs.List.{AllByRecursion}
use Rattle.wire.proofs.OnePacking.{one_packing}
use Rattle.greet.specs.Message.{DumpValue, IsDump}
use Rattle.gtid.specs.Identifier.{Ids}
use Rattle.gtid.specs.Encoding.{IsEncoding}
use Rattle.gtid.proofs.GroupSets.{one_front}
use Rattle.scripted_source.specs.declared.fault.ForgeFault.{ForgeFault}
use Rattle.scripted_source.specs.declared.fault.ForgeFault.TheVariants.{Request, Unfit, TooLarge, Memory}
use Rattle.scripted_source.specs.Script.{PartValue, ScriptValue}
use Rattle.scripted_source.specs.Source.{ArePackings, Asks, CanSendPart, CanSend, IsAnswer, IsPartFault, IsPartsFault, IsScriptsFault, IsUnsendable, is_known, due, is_once, sent_payloads}
use Rattle.wire.specs.Payload.{Payload}

-- ---- One list of bytes.

are_one : (id : ℕ) (ps : List Payload) (x y : List ℕ) (m n : ℕ) → ArePackings id ps x m → ArePackings id ps y n → x ≡ y
are_one id [] x y m n a b = a.0 ∙ sym b.0
are_one id (p ∷ ps) x y m n a b =
    let e = one_packing a.4 b.4 in
    let others : a.1 ≡ b.1 = are_one b.2 ps a.1 b.1 m n (subst (λ k. ArePackings k ps a.1 m) e.1 a.5) b.5 in
    a.3 ∙ ap (λ (l : List ℕ). l ++ a.1) e.0 ∙ ap (λ (l : List ℕ). b.0 ++ l) others ∙ sym b.3

-- ---- What can be sent has no fault.

no_part : (at : ℕ) (part : PartValue) (f : ForgeFault) → CanSendPart part → IsPartFault at part f → ⊥
no_part at part Request can is = is
no_part at part (Unfit place) can is = is.1 can.fits
no_part at part TooLarge can is = is.1 can.short
no_part at part Memory can is = is

no_parts : (at : ℕ) (parts : List PartValue) (f : ForgeFault) → AllByRecursion CanSendPart parts → IsPartsFault at parts f → ⊥
no_parts at [] f can is = is
no_parts at (part ∷ parts) f can (inl is) = no_part at part f can.0 is
no_parts at (part ∷ parts) f can (inr is) = no_parts at parts f can.1 is.1

abbrev Faults : Bool → Ids → ℕ → ScriptValue → List ScriptValue → ForgeFault → Type 0
Faults there executed at script scripts f = MatchBool there (IsScriptsFault executed (suc at) scripts f) (IsPartsFault at script.parts f ⊎ (CanSend script × IsScriptsFault executed (suc at) scripts f))

no_script : (executed : Ids) (at : ℕ) (script : ScriptValue) (scripts : List ScriptValue) (f : ForgeFault) (there : Bool) → is_known executed script ≡ there → AllByRecursion CanSend (due executed (script ∷ scripts))
    → Faults there executed at script scripts f → (AllByRecursion CanSend (due executed scripts) → IsScriptsFault executed (suc at) scripts f → ⊥) → ⊥
no_script executed at script scripts f true is can faults rest =
    let left : due executed (script ∷ scripts) ≡ due executed scripts = rw is refl in
    rest (subst (λ l. AllByRecursion CanSend l) left can) faults
no_script executed at script scripts f false is can (inl faults) rest =
    let left : due executed (script ∷ scripts) ≡ script ∷ due executed scripts = rw is refl in
    no_parts at script.parts f (subst (λ l. AllByRecursion CanSend l) left can).0.parts faults
no_script executed at script scripts f false is can (inr faults) rest =
    let left : due executed (script ∷ scripts) ≡ script ∷ due executed scripts = rw is refl in
    rest (subst (λ l. AllByRecursion CanSend l) left can).1 faults.1

no_scripts : (executed : Ids) (at : ℕ) (scripts : List ScriptValue) (f : ForgeFault) → AllByRecursion CanSend (due executed scripts) → IsScriptsFault executed at scripts f → ⊥
no_scripts executed at [] f can is = is
no_scripts executed at (script ∷ scripts) f can is = no_script executed at script scripts f (is_known executed script) refl can is (λ c h. no_scripts executed (suc at) scripts f c h)

-- ---- One fault.

one_part : (at : ℕ) (part : PartValue) (f g : ForgeFault) → IsPartFault at part f → IsPartFault at part g → f ≡ g
one_part at part Request g a b = absurd a
one_part at part (Unfit p) Request a b = absurd b
one_part at part (Unfit p) (Unfit q) a b = ap Unfit (a.0 ∙ sym b.0)
one_part at part (Unfit p) TooLarge a b = absurd (a.1 b.0)
one_part at part (Unfit p) Memory a b = absurd b
one_part at part TooLarge Request a b = absurd b
one_part at part TooLarge (Unfit q) a b = absurd (b.1 a.0)
one_part at part TooLarge TooLarge a b = refl
one_part at part TooLarge Memory a b = absurd b
one_part at part Memory g a b = absurd a

one_of_parts : (at : ℕ) (parts : List PartValue) (f g : ForgeFault) → IsPartsFault at parts f → IsPartsFault at parts g → f ≡ g
one_of_parts at [] f g a b = absurd a
one_of_parts at (part ∷ parts) f g (inl a) (inl b) = one_part at part f g a b
one_of_parts at (part ∷ parts) f g (inl a) (inr b) = absurd (no_part at part f b.0 a)
one_of_parts at (part ∷ parts) f g (inr a) (inl b) = absurd (no_part at part g a.0 b)
one_of_parts at (part ∷ parts) f g (inr a) (inr b) = one_of_parts at parts f g a.1 b.1

one_by : (executed : Ids) (at : ℕ) (script : ScriptValue) (scripts : List ScriptValue) (f g : ForgeFault) (there : Bool) → Faults there executed at script scripts f → Faults there executed at script scripts g
    → (IsScriptsFault executed (suc at) scripts f → IsScriptsFault executed (suc at) scripts g → f ≡ g) → f ≡ g
one_by executed at script scripts f g true a b rest = rest a b
one_by executed at script scripts f g false (inl a) (inl b) rest = one_of_parts at script.parts f g a b
one_by executed at script scripts f g false (inl a) (inr b) rest = absurd (no_parts at script.parts f b.0.parts a)
one_by executed at script scripts f g false (inr a) (inl b) rest = absurd (no_parts at script.parts g a.0.parts b)
one_by executed at script scripts f g false (inr a) (inr b) rest = rest a.1 b.1

one_of_scripts : (executed : Ids) (at : ℕ) (scripts : List ScriptValue) (f g : ForgeFault) → IsScriptsFault executed at scripts f → IsScriptsFault executed at scripts g → f ≡ g
one_of_scripts executed at [] f g a b = absurd a
one_of_scripts executed at (script ∷ scripts) f g a b = one_by executed at script scripts f g (is_known executed script) a b (λ x y. one_of_scripts executed (suc at) scripts f g x y)

-- ---- Of a request.

module _ (one_dump : (a b : DumpValue) (payload : List ℕ) → IsDump a payload → IsDump b payload → a ≡ b) (request : Payload) where
  same_dump : (d e : DumpValue) (x y : Ids) → Asks request d x → Asks request e y → d ≡ e
  same_dump d e x y a b = one_dump d e request a.is_dump b.is_dump

  same_set : (d e : DumpValue) (x y : Ids) → Asks request d x → Asks request e y → x ≡ y
  same_set d e x y a b = (one_front x y e.set e.set [] [] (subst (λ (v : DumpValue). IsEncoding x v.set) (same_dump d e x y a b) a.encodes) b.encodes refl).0

  pub one : (history : List ScriptValue) (x y : List ℕ) → IsAnswer history request x → IsAnswer history request y → x ≡ y
  one history x y a b =
      let dump : a.dump ≡ b.dump = same_dump a.dump b.dump a.executed b.executed a.asks b.asks in
      let set : a.executed ≡ b.executed = same_set a.dump b.dump a.executed b.executed a.asks b.asks in
      are_one 1 (sent_payloads (is_once b.dump.flags) (due b.executed history)) x y a.last b.last
      (subst (λ e. ArePackings 1 (sent_payloads (is_once b.dump.flags) (due e history)) x a.last) set (subst (λ (d : DumpValue). ArePackings 1 (sent_payloads (is_once d.flags) (due a.executed history)) x a.last) dump a.packings)) b.packings

  pub not_both : (history : List ScriptValue) (x : List ℕ) (f : ForgeFault) → IsAnswer history request x → IsUnsendable history request f → ⊥
  not_both history x f a b =
      let set : a.executed ≡ b.executed = same_set a.dump b.dump a.executed b.executed a.asks b.asks in
      no_scripts b.executed 0 history f (subst (λ e. AllByRecursion CanSend (due e history)) set a.can) b.is_fault

  pub one_fault : (history : List ScriptValue) (f g : ForgeFault) → IsUnsendable history request f → IsUnsendable history request g → f ≡ g
  one_fault history f g a b =
      let set : a.executed ≡ b.executed = same_set a.dump b.dump a.executed b.executed a.asks b.asks in
      one_of_scripts b.executed 0 history f g (subst (λ e. IsScriptsFault e 0 history f) set a.is_fault) b.is_fault
