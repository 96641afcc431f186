use Rattle.std.proofs.Common.{◌≡◌, [], ◌∷◌, drop, sym, ap, ◌∙◌}
use Rattle.base.specs.Crc.{crc16}
use Rattle.base.specs.Bits.{bits_all}
use Rattle.memory.specs.Scratchpads.{working, on, sending, command_of, run_command, report}
use Rattle.memory.specs.RegistersModel.{regs_of}
use Rattle.memory.specs.ScratchpadModel.{model, closing}
use Rattle.memory.proofs.Sent.{closing_all}
use Rattle.memory.proofs.scratchpad_memory.ScratchpadMemory.run_command.Goals as goal

pub returns-in-170 : goal.returns-in-170
returns-in-170 g c =
    let r = regs_of c.args.self.now.regs in
    let p = model g.K.Kind.rules g.K.Kind.bytes c.args.self.now in
    let sum : c.crc16_more.result ≡ crc16 0 (0xAA ∷ []) = c.crc16_more.ensures ∙ ap (λ b. crc16 0 (b ∷ [])) c.in-170.is in
    ap (λ d. working p (on r d))
    (c.report_from-self.ensures ∙ ap (λ s. sending (bits_all (closing s (drop 0 (report r))))) sum ∙ ap sending (closing_all (report r)))
    ∙ ap (λ b. working p (run_command g.K.Kind.rules (g.K.Kind.bytes c.args.self.now.kind) (command_of b) r)) (sym c.in-170.is)
